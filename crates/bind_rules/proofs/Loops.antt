-- A list that is gone through behind what may be a fault.
use Rattle.std.proofs.Common.{◌≡◌, ℕ, ◌+◌, ◌<◌, ◌≤◌, List, refl, subst, get_or, drop, length}
use Rattle.std.specs.Prelude.{Result, Ok, Err}
use Rattle.sql_scope.specs.declared.fault.BindFault.{BindFault}
use Rattle.sql_scope.specs.Answer.{Answer, GoesOn, each}
use Rattle.sql_scope.proofs.Each.{SoFar, begins, goes_further, ends, step_on}

-- what was bound of a list behind the first, and what is left, is the whole; or the fault of the first
abbrev pub Far : {A X : Type 0} → (X → A → Answer A) → List X → Result A BindFault → Result A BindFault → List X → Type 0
Far step list (Err fault) got rest = got ≡ Err fault
Far step list (Ok a) got rest = SoFar step (each step (Ok a) list) got rest

pub far_begins : {A X : Type 0} (step : X → A → Answer A) (list : List X) (first : Result A BindFault) → Far step list first first list
far_begins step list (Err fault) = refl
far_begins step list (Ok a) = begins step (Ok a) (Ok a) list refl

pub far_further : {A X : Type 0} (step : X → A → Answer A) (list : List X) (first got result : Result A BindFault) (i : ℕ) (x : X)
    → i < length list → x ≡ get_or list i x → Far step list first got (drop i list) → GoesOn (step x) got result → Far step list first result (drop (i + 1) list)
far_further step list (Err fault) got result i x h is far on = subst (λ g. GoesOn (step x) g result) far on
far_further step list (Ok a) got result i x h is far on = goes_further step (each step (Ok a) list) got result list i x h is far (step_on step x got result on)

pub far_ends : {A X : Type 0} (step : X → A → Answer A) (list : List X) (first got : Result A BindFault) (i : ℕ)
    → length list ≤ i → Far step list first got (drop i list) → GoesOn (λ a. each step (Ok a) list) first got
far_ends step list (Err fault) got i h far = far
far_ends step list (Ok a) got i h far = ends step (each step (Ok a) list) got list i h far
