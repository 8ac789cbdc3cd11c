-- The marks after a claim was given back.
use Rattle.std.proofs.Common.{◌≡◌, ℕ, true, false, List, refl}
use Rattle.std.specs.Prelude.{◌==◌, not, filter}
use Rattle.std.specs.List.{list_any}
use Rattle.pool_core.specs.declared.state.CorePage.{CorePage}
use Rattle.pool_core.specs.declared.state.Mark.{Mark}
use Rattle.pool_core.specs.Effects.{rests_on, marks_left}

-- where the actor has another claim, they stay
pub left_read : (pages : List CorePage) (actor page : ℕ) (readers : List ℕ) (marks : List Mark) → list_any (λ reader. reader == actor) readers ≡ true → marks_left pages actor page readers marks ≡ marks
left_read pages actor page readers marks e = rw e refl

-- where it was the last, those that rest on the page go
pub left_gone : (pages : List CorePage) (actor page : ℕ) (readers : List ℕ) (marks : List Mark) → list_any (λ reader. reader == actor) readers ≡ false
    → marks_left pages actor page readers marks ≡ filter (λ mark. not (rests_on pages actor page mark)) marks
left_gone pages actor page readers marks e = rw e refl
