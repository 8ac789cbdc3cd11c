-- Images out of a lane's hand stay.
use Rattle.std.proofs.Common.{◌≡◌, refl, sym, subst, Some, None}
use Rattle.spill_file.specs.declared.place.Place.{Place}
use Rattle.spill_file.specs.Places.{PlaceBook, InHand, next_place}
use Rattle.spill_file.specs.Images.{Images, SameBut, SameOut}
use Rattle.spill_file.proofs.Books.{next_in_hand}

pub same_out : (b : PlaceBook) (p : Place) (old new : Images) → next_place b ≡ Some p → SameBut p old new → SameOut b old new
same_out b p None new next same = tt
same_out b p (Some at) None next same = absurd same
same_out b p (Some at) (Some now) next same = λ q out. same q (λ is. out (subst (λ z. InHand b z) (sym is) (next_in_hand b p next)))

pub same_all : (b : PlaceBook) (old new : Images) → new ≡ old → SameOut b old new
same_all b old new is = subst (λ (z : Images). SameOut b old z) (sym is) (all old)
  where
    all : (x : Images) → SameOut b x x
    all None = tt
    all (Some at) = λ q out. refl
