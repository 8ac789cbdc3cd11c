-- The images that lie at places, where they are told.
use Rattle.std.specs.Prelude.{ℕ, ◌≡◌, ◌≢◌, Option, Some, None, List, ⊤}
use Rattle.spill_file.specs.declared.place.Place.{Place}
use Rattle.spill_file.specs.Places.{PlaceBook, InHand}

-- the image at each place that has one
abbrev pub Images : Type 0
Images = Option (Place → Option (List ℕ))

-- this image lies at a place
abbrev pub LiesAt : Images → Place → List ℕ → Type 0
LiesAt None p image = ⊤
LiesAt (Some at) p image = at p ≡ Some image

-- places of which each that passes a test has the image that it had
abbrev pub SameWhere : (Place → Type 0) → Images → Images → Type 0
SameWhere Test None new = ⊤
SameWhere Test (Some at) None = ⊥
SameWhere Test (Some at) (Some now) = (p : Place) → Test p → now p ≡ at p

-- nothing was written but at this place
abbrev pub SameBut : Place → Images → Images → Type 0
SameBut p old new = SameWhere (λ q. q ≢ p) old new

-- each place out of a lane's hand has the image that it had
abbrev pub SameOut : PlaceBook → Images → Images → Type 0
SameOut book old new = SameWhere (λ q. InHand book q → ⊥) old new
