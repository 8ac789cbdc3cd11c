-- What a list that is gone through from left to right keeps.
use Rattle.std.proofs.Common.{◌≡◌, List, [], ◌∷◌, refl, subst, Ok, Err, Bool, true, false, ℕ}
use Rattle.std.specs.Prelude.{Option, Some, None}
use Rattle.std.specs.List.{AllByRecursion}
use Rattle.ooc_types.specs.declared.refusal.RefusalKind.{RefusalKind}
use Rattle.formed_binding.specs.Answers.{OfAnswer}
use Rattle.sql_scope.specs.Answer.{Answer, Refusal, ◌>>=◌, each, or_refuse, unless}

pub of-answer : {A : Type 0} (P : A → Type 0) (m : Answer A) (a : A) → OfAnswer P m → m ≡ Ok a → P a
of-answer P (Err refusal) a fact is = cc
of-answer P (Ok b) a fact is = let same : b ≡ a = cc in subst P same fact

pub on-answer : {A B : Type 0} (P : A → Type 0) (Q : B → Type 0) (m : Answer A) (f : A → Answer B) → OfAnswer P m → ((a : A) → P a → OfAnswer Q (f a)) → OfAnswer Q (m >>= f)
on-answer P Q (Err refusal) f fact step = tt
on-answer P Q (Ok a) f fact step = step a fact

-- what each item keeps, the whole list keeps
pub each-keeps : {A X : Type 0} (P : A → Type 0) (step : X → A → Answer A) (m : Answer A) (list : List X) → OfAnswer P m → ((x : X) (a : A) → P a → OfAnswer P (step x a)) → OfAnswer P (each step m list)
each-keeps P step m [] fact keeps = fact
each-keeps P step m (x ∷ list) fact keeps = each-keeps P step (m >>= step x) list (on-answer P P m (step x) fact (keeps x)) keeps

-- the same, of items of which something is known
pub each-of : {A X : Type 0} (P : A → Type 0) (Of : X → Type 0) (step : X → A → Answer A) (m : Answer A) (list : List X) → OfAnswer P m → ((x : X) (a : A) → Of x → P a → OfAnswer P (step x a)) → AllByRecursion Of list → OfAnswer P (each step m list)
each-of P Of step m [] fact keeps all = fact
each-of P Of step m (x ∷ list) fact keeps all =
    each-of P Of step (m >>= step x) list (on-answer P P m (step x) fact (λ a h. keeps x a all.0 h)) keeps all.1

-- what was asked for holds
pub asked-for : {A : Type 0} (P : A → Type 0) (holds : Bool) (place : ℕ) (kind : RefusalKind) (a : A) → (holds ≡ true → P a) → OfAnswer P (unless holds place kind a)
asked-for P true place kind a fact = fact refl
asked-for P false place kind a fact = tt

-- whatever the answer is
pub any-answer : {A : Type 0} (m : Answer A) → OfAnswer (λ (a : A). m ≡ Ok a) m
any-answer (Err refusal) = tt
any-answer (Ok a) = refl

-- a fact that each value has which may be answered
pub whenever : {A : Type 0} (P : A → Type 0) (m : Answer A) → ((a : A) → m ≡ Ok a → P a) → OfAnswer P m
whenever P (Err refusal) fact = tt
whenever P (Ok a) fact = fact a refl

-- a refusal stays
pub each-refused : {A X : Type 0} (Q : A → Type 0) (step : X → A → Answer A) (refusal : Refusal) (list : List X) → OfAnswer Q (each step (Err refusal) list)
each-refused Q step refusal [] = tt
each-refused Q step refusal (x ∷ list) = each-refused Q step refusal list

pub each-on : {A X : Type 0} (P Q : A → Type 0) (step : X → A → Answer A) (m : Answer A) (list : List X) → OfAnswer P m → ((a : A) → P a → OfAnswer Q (each step (Ok a) list)) → OfAnswer Q (each step m list)
each-on P Q step (Err refusal) list fact more = each-refused Q step refusal list
each-on P Q step (Ok a) list fact more = more a fact

pub or-refused : {A : Type 0} (P : A → Type 0) (o : Option A) (place : ℕ) (kind : RefusalKind) → ((a : A) → o ≡ Some a → P a) → OfAnswer P (or_refuse o place kind)
or-refused P None place kind fact = tt
or-refused P (Some a) place kind fact = fact a refl
