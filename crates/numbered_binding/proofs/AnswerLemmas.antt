-- What an answer keeps.
use Rattle.std.proofs.Common.{◌≡◌, ℕ, Bool, true, false, List, [], ◌∷◌, ◌++◌, map, refl, subst, Ok, Err}
use Rattle.std.specs.List.{AllByRecursion}
use Rattle.ooc_types.specs.declared.refusal.RefusalKind.{RefusalKind}
use Rattle.sql_scope.specs.Answer.{Answer, ◌>>=◌, each, unless}
use Rattle.numbered_binding.specs.Kept.{OfAnswer}

pub of-answer : {A : Type 0} (P : A → Type 0) (m : Answer A) (a : A) → OfAnswer P m → m ≡ Ok a → P a
of-answer P (Err refusal) a fact is = cc
of-answer P (Ok b) a fact is = let same : b ≡ a = cc in subst P same fact

pub on-answer : {A B : Type 0} (P : A → Type 0) (Q : B → Type 0) (m : Answer A) (f : A → Answer B) → OfAnswer P m → ((a : A) → P a → OfAnswer Q (f a)) → OfAnswer Q (m >>= f)
on-answer P Q (Err refusal) f fact step = tt
on-answer P Q (Ok a) f fact step = step a fact

-- whatever is answered first
pub behind-any : {A B : Type 0} (Q : B → Type 0) (m : Answer A) (f : A → Answer B) → ((a : A) → OfAnswer Q (f a)) → OfAnswer Q (m >>= f)
behind-any Q (Err refusal) f step = tt
behind-any Q (Ok a) f step = step a

-- what each item keeps, the whole list keeps
pub each-keeps : {A X : Type 0} (P : A → Type 0) (Of : X → Type 0) (step : X → A → Answer A) (m : Answer A) (list : List X) → OfAnswer P m → ((x : X) (a : A) → Of x → P a → OfAnswer P (step x a)) → AllByRecursion Of list → OfAnswer P (each step m list)
each-keeps P Of step m [] fact keeps all = fact
each-keeps P Of step m (x ∷ list) fact keeps all =
    each-keeps P Of step (m >>= step x) list (on-answer P P m (step x) fact (λ a h. keeps x a all.0 h)) keeps all.1

-- what was asked for holds
pub asked-for : {A : Type 0} (P : A → Type 0) (holds : Bool) (place : ℕ) (kind : RefusalKind) (a : A) → (holds ≡ true → P a) → OfAnswer P (unless holds place kind a)
asked-for P true place kind a fact = fact refl
asked-for P false place kind a fact = tt

pub all-behind : {A : Type 0} (P : A → Type 0) (xs : List A) (x : A) → AllByRecursion P xs → P x → AllByRecursion P (xs ++ x ∷ [])
all-behind P [] x all h = (h, tt)
all-behind P (y ∷ xs) x all h = (all.0, all-behind P xs x all.1 h)

-- what items beside their facts are bound to
pub all-bound : {A B : Type 0} (f : A → B) (P : A → Type 0) (Q : B → Type 0) → ((x : A) → P x → Q (f x)) → (ys : List ((x : A) × P x)) → AllByRecursion Q (map f (map (λ y. y.0) ys))
all-bound f P Q to [] = tt
all-bound f P Q to (y ∷ ys) = (to y.0 y.1, all-bound f P Q to ys)
