-- What is made of parts is made of what the parts are said to be.
use Rattle.std.proofs.Common.{◌≡◌, refl, ap, ◌∙◌, subst}
use Rattle.std.specs.Prelude.{Result, Ok, Err, IfOk}
use Rattle.sql_plan.specs.Steps.{GoesOn, GoesOnBoth}

pub goes_on : {A B E : Type 0} → (f : A → B) (x : A) (got : Result A E) (result : Result B E)
    → IfOk got (λ a. a ≡ x) → GoesOn f got result → IfOk result (λ b. b ≡ f x)
goes_on f x got (Err e) is on = tt
goes_on f x (Err e) (Ok b) is on = absurd on
goes_on f x (Ok a) (Ok b) is on = on ∙ ap f is

pub goes_on_both : {A B C E : Type 0} → (f : A → B → C) (x : A) (y : B) (got : Result A E) (second : Result B E) (result : Result C E)
    → IfOk got (λ a. a ≡ x) → IfOk second (λ b. b ≡ y) → GoesOnBoth f got second result → IfOk result (λ c. c ≡ f x y)
goes_on_both f x y got second (Err e) is and on = tt
goes_on_both f x y (Err e) second (Ok c) is and on = absurd on
goes_on_both f x y (Ok a) second (Ok c) is and on = goes_on (f a) y second (Ok c) and on ∙ ap (λ z. f z y) is

-- what was made is the one that is meant
pub said : {B E : Type 0} → (y x : B) (result : Result B E) → y ≡ x → IfOk result (λ b. b ≡ y) → IfOk result (λ b. b ≡ x)
said y x result is = subst (λ z. IfOk result (λ b. b ≡ z)) is

-- ---- parts that were paired before the whole was made of them

pub itself : {A E : Type 0} → (r : Result A E) → GoesOn (λ a. a) r r
itself (Err e) = tt
itself (Ok a) = refl

-- nothing was made, whichever part was missing
missing : {A B C E : Type 0} → (f : A → B → C) (first : Result A E) (second : Result B E) (e : E) → GoesOnBoth f first second (Err e)
missing f (Err x) second e = tt
missing f (Ok a) (Err x) e = tt
missing f (Ok a) (Ok b) e = tt

pub through_both : {A B C E : Type 0} → (f : A → B → C) (first got : Result A E) (second there : Result B E) (pair : Result (A × B) E) (result : Result C E)
    → GoesOn (λ a. a) first got → GoesOn (λ b. b) second there → GoesOnBoth (λ a b. (a, b)) got there pair → GoesOn (λ p. f p.0 p.1) pair result
    → GoesOnBoth f first second result
through_both f first got second there pair (Err e) one other two on = missing f first second e
through_both f first got second there (Err e) (Ok c) one other two on = absurd on
through_both f first (Err e) second there (Ok p) (Ok c) one other two on = absurd two
through_both f first (Ok x) second (Err e) (Ok p) (Ok c) one other two on = absurd two
through_both f (Err e) (Ok x) second (Ok y) (Ok p) (Ok c) one other two on = absurd one
through_both f (Ok a) (Ok x) (Err e) (Ok y) (Ok p) (Ok c) one other two on = absurd other
through_both f (Ok a) (Ok x) (Ok b) (Ok y) (Ok p) (Ok c) one other two on =
    on ∙ ap (λ q. f q.0 q.1) two ∙ ap (λ z. f z y) one ∙ ap (f a) other

pub through_pair : {A B E : Type 0} → (first got : Result A E) (second there : Result B E) (pair : Result (A × B) E)
    → GoesOn (λ a. a) first got → GoesOn (λ b. b) second there → GoesOnBoth (λ a b. (a, b)) got there pair → GoesOnBoth (λ a b. (a, b)) first second pair
through_pair first got second there pair one other two =
    through_both (λ a b. (a, b)) first got second there pair pair one other two (itself pair)

missing_one : {A C E : Type 0} → (f : A → C) (first : Result A E) (e : E) → GoesOn f first (Err e)
missing_one f (Err x) e = tt
missing_one f (Ok a) e = tt

-- what stands beside a part is known
pub beside : {A B C E : Type 0} → (f : A → B → C) (b : B) (first : Result A E) (second : Result B E) (pair : Result (A × B) E) (result : Result C E)
    → IfOk second (λ x. x ≡ b) → GoesOnBoth (λ x y. (x, y)) first second pair → GoesOn (λ p. f p.0 p.1) pair result → GoesOn (λ a. f a b) first result
beside f b first second pair (Err e) is two on = missing_one (λ a. f a b) first e
beside f b first second (Err e) (Ok c) is two on = absurd on
beside f b (Err e) second (Ok p) (Ok c) is two on = absurd two
beside f b (Ok a) (Err e) (Ok p) (Ok c) is two on = absurd two
beside f b (Ok a) (Ok x) (Ok p) (Ok c) is two on = on ∙ ap (λ q. f q.0 q.1) two ∙ ap (f a) is
