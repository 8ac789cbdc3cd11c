-- What goes on behind a pair goes on behind both of its parts.
use Rattle.std.proofs.Common.{◌≡◌, ap, sym, ◌∙◌, subst}
use Rattle.std.specs.Prelude.{Result, Ok, Err}
use Rattle.sql_scope.specs.declared.fault.BindFault.{BindFault}
use Rattle.sql_scope.specs.declared.fault.BindFault.TheVariants.{Refused, OutOfMemory}
use Rattle.sql_scope.specs.Answer.{Answer, Gives, GoesOn, GoesOnBoth}

-- memory ran out
out : {C : Type 0} (answer : Answer C) (result : Result C BindFault) → result ≡ Err OutOfMemory → Gives answer result
out answer result is = subst (λ r. Gives answer r) (sym is) tt

pub through_pair : {A B C : Type 0} (f : A → B → Answer C) (first : Result A BindFault) (second : Result B BindFault) (pair : Result (A × B) BindFault)
    (result : Result C BindFault) → GoesOnBoth (λ a b. Ok (a, b)) first second pair → GoesOn (λ p. f p.0 p.1) pair result → GoesOnBoth f first second result
through_pair f (Err e) second (Err x) result two on = let same : x ≡ e = cc in on ∙ ap (λ z. Err z) same
through_pair f (Err e) second (Ok p) result two on = cc
through_pair f (Ok a) (Err e) (Err x) result two on = let same : x ≡ e = cc in on ∙ ap (λ z. Err z) same
through_pair f (Ok a) (Err e) (Ok p) result two on = cc
through_pair f (Ok a) (Ok b) (Err OutOfMemory) result two on = out (f a b) result on
through_pair f (Ok a) (Ok b) (Err (Refused place kind)) result two on = cc
through_pair f (Ok a) (Ok b) (Ok p) result two on =
    let same : p ≡ (a, b) = cc in
    subst (λ q. Gives (f q.0 q.1) result) same on
