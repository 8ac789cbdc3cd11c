-- What follows an operand follows what it is bound to.
use Rattle.std.proofs.Common.{◌≡◌, sym, ap, subst}
use Rattle.std.specs.Prelude.{Result, Ok, Err}
use Rattle.sql_scope.specs.declared.fault.BindFault.{BindFault}
use Rattle.sql_scope.specs.declared.fault.BindFault.TheVariants.{Refused, OutOfMemory}
use Rattle.sql_scope.specs.Answer.{Answer, Gives, GoesOn, GoesOnBoth, GoesOnThree, ◌>>=◌}

pub same_answer : {A : Type 0} → (m n : Answer A) (result : Result A BindFault) → m ≡ n → Gives m result → Gives n result
same_answer m n result is gives = subst (λ x. Gives x result) is gives

fault_given : {A B : Type 0} → (m : Answer A) (f : A → Answer B) (fault : BindFault) (result : Result B BindFault)
    → Gives m (Err fault) → result ≡ Err fault → Gives (m >>= f) result
fault_given m f OutOfMemory result gives is = subst (λ r. Gives (m >>= f) r) (sym is) tt
fault_given m f (Refused place kind) result gives is = subst (λ r. Gives (m >>= f) r) (sym is) (ap (λ x. x >>= f) gives)

pub goes_on : {A B : Type 0} → (m : Answer A) (f : A → Answer B) (got : Result A BindFault) (result : Result B BindFault)
    → Gives m got → GoesOn f got result → Gives (m >>= f) result
goes_on m f (Err fault) result gives on = fault_given m f fault result gives on
goes_on m f (Ok a) result gives on = same_answer (f a) (m >>= f) result (sym (ap (λ x. x >>= f) gives)) on

pub goes_on_both : {A B C : Type 0} → (m : Answer A) (n : Answer B) (f : A → B → Answer C) (got : Result A BindFault) (right : Result B BindFault)
    (result : Result C BindFault) → Gives m got → Gives n right → GoesOnBoth f got right result → Gives (m >>= (λ a. n >>= f a)) result
goes_on_both m n f (Err fault) right result gives there on = fault_given m (λ a. n >>= f a) fault result gives on
goes_on_both m n f (Ok a) right result gives there on =
    same_answer (n >>= f a) (m >>= (λ x. n >>= f x)) result (sym (ap (λ x. x >>= (λ y. n >>= f y)) gives)) (goes_on n (f a) right result there on)

pub goes_on_three : {A B C D : Type 0} → (m : Answer A) (n : Answer B) (o : Answer C) (f : A → B → C → Answer D) (got : Result A BindFault) (second : Result B BindFault)
    (third : Result C BindFault) (result : Result D BindFault) → Gives m got → Gives n second → Gives o third → GoesOnThree f got second third result
    → Gives (m >>= (λ a. n >>= (λ b. o >>= f a b))) result
goes_on_three m n o f (Err fault) second third result gives there then on = fault_given m (λ a. n >>= (λ b. o >>= f a b)) fault result gives on
goes_on_three m n o f (Ok a) second third result gives there then on =
    same_answer (n >>= (λ b. o >>= f a b)) (m >>= (λ x. n >>= (λ b. o >>= f x b))) result (sym (ap (λ x. x >>= (λ y. n >>= (λ b. o >>= f y b))) gives))
    (goes_on_both n o (f a) second third result there then on)
