-- What a body that a claim shows is.
use Rattle.std.specs.Prelude.{Bool, true, false, ⊤}
use Rattle.page_body.specs.declared.body.PageBody.{PageBody}
use Rattle.page_body.specs.declared.body.PageBody.TheVariants.{Resident, Resting, Dead}

-- the page wasn't retired
abbrev pub is_living : PageBody → Bool
is_living (Resident frame ticket) = true
is_living (Resting ticket) = true
is_living (Dead frame) = false

abbrev pub IsDead : PageBody → Type 0
IsDead (Resident frame ticket) = ⊥
IsDead (Resting ticket) = ⊥
IsDead (Dead frame) = ⊤
