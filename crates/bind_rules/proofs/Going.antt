-- What follows what was carried on, and what follows it in another view.
use Rattle.std.proofs.Common.{◌≡◌, refl, subst}
use Rattle.std.specs.Prelude.{Result, Ok, Err}
use Rattle.sql_scope.specs.declared.fault.BindFault.{BindFault}
use Rattle.sql_scope.specs.Answer.{Answer, Gives, GoesOn, GoesOnBoth, ◌>>=◌}
use Rattle.sql_scope.proofs.Going.{goes_on, goes_on_both}

pub on_on : {A B C : Type 0} → (f : A → Answer B) (g : B → Answer C) (first : Result A BindFault) (got : Result B BindFault) (result : Result C BindFault)
    → GoesOn f first got → GoesOn g got result → GoesOn (λ a. f a >>= g) first result
on_on f g (Err fault) got result is on = subst (λ r. GoesOn g r result) is on
on_on f g (Ok a) got result gives on = goes_on (f a) g got result gives on

-- what is bound beside it
pub on_both : {A B C D : Type 0} → (f : A → Answer B) (n : Answer C) (g : B → C → Answer D) (first : Result A BindFault) (got : Result B BindFault) (right : Result C BindFault)
    (result : Result D BindFault) → GoesOn f first got → Gives n right → GoesOnBoth g got right result → GoesOn (λ a. f a >>= (λ b. n >>= g b)) first result
on_both f n g (Err fault) got right result is given on = subst (λ r. GoesOnBoth g r right result) is on
on_both f n g (Ok a) got right result gives given on = goes_on_both (f a) n g got right result gives given on

-- what is bound beside it, over what it was
pub on_then : {A B C : Type 0} → (n : A → Answer B) (f : A → B → Answer C) (first : Result A BindFault) (right : Result B BindFault) (result : Result C BindFault)
    → ((a : A) → first ≡ Ok a → Gives (n a) right) → GoesOnBoth f first right result → GoesOn (λ a. n a >>= f a) first result
on_then n f (Err fault) right result there on = on
on_then n f (Ok a) right result there on = goes_on (n a) (f a) right result (there a refl) on

pub on_beside : {A B C : Type 0} → (n : Answer B) (f : A → B → Answer C) (first : Result A BindFault) (right : Result B BindFault) (result : Result C BindFault)
    → Gives n right → GoesOnBoth f first right result → GoesOn (λ a. n >>= f a) first result
on_beside n f first right result given on = on_then (λ a. n) f first right result (λ a is. given) on

pub goes_on_then : {A B C : Type 0} → (m : Answer A) (n : A → Answer B) (f : A → B → Answer C) (got : Result A BindFault) (right : Result B BindFault) (result : Result C BindFault)
    → Gives m got → ((a : A) → got ≡ Ok a → Gives (n a) right) → GoesOnBoth f got right result → Gives (m >>= (λ a. n a >>= f a)) result
goes_on_then m n f got right result gives there on = goes_on m (λ a. n a >>= f a) got result gives (on_then n f got right result there on)

-- the same function, written in another way
pub same_on : {A B : Type 0} → (f g : A → Answer B) (first : Result A BindFault) (result : Result B BindFault) → ((a : A) → f a ≡ g a) → GoesOn f first result → GoesOn g first result
same_on f g (Err fault) result same on = on
same_on f g (Ok a) result same on = subst (λ m. Gives m result) (same a) on
