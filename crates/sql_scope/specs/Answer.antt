-- What binding answers: what was bound, or the first refusal and its place.
use Rattle.std.specs.Prelude.{ℕ, ◌≡◌, Bool, List, [], ◌∷◌, Option, Some, None, Result, Ok, Err, if◌then◌else◌, ⊤}
use Rattle.ooc_types.specs.declared.refusal.RefusalKind.{RefusalKind}
use Rattle.sql_scope.specs.declared.fault.BindFault.{BindFault}
use Rattle.sql_scope.specs.declared.fault.BindFault.TheVariants.{Refused, OutOfMemory}

pub record Refusal : Type 0 where
  pub place : ℕ
  pub kind : RefusalKind

abbrev pub Answer : Type 0 → Type 0
Answer A = Result A Refusal

abbrev pub refuse : {A : Type 0} → ℕ → RefusalKind → Answer A
refuse place kind = Err (record { place = place; kind = kind })

-- the first refusal is the refusal of the whole
infixl 10 ◌>>=◌
abbrev pub ◌>>=◌ : {A B : Type 0} → Answer A → (A → Answer B) → Answer B
(Err refusal) >>= f = Err refusal
(Ok a) >>= f = f a

-- it is asked for, and refused where it isn't so
abbrev pub unless : {A : Type 0} → Bool → ℕ → RefusalKind → A → Answer A
unless holds place kind a = if holds then Ok a else refuse place kind

-- what is there, and a refusal where nothing is
abbrev pub or_refuse : {A : Type 0} → Option A → ℕ → RefusalKind → Answer A
or_refuse None place kind = refuse place kind
or_refuse (Some a) place kind = Ok a

-- a list is gone through from left to right: each item acts on what came before
abbrev pub each : {A X : Type 0} → (X → A → Answer A) → Answer A → List X → Answer A
each step m [] = m
each step m (x ∷ xs) = each step (m >>= step x) xs

-- The code answers exactly this, or that memory ran out.
abbrev pub Gives : {A : Type 0} → Answer A → Result A BindFault → Type 0
Gives answer (Err OutOfMemory) = ⊤
Gives answer (Err (Refused place kind)) = answer ≡ refuse place kind
Gives answer (Ok a) = answer ≡ Ok a

-- The code goes on behind what was bound, or hands on the fault.
abbrev pub GoesOn : {A B : Type 0} → (A → Answer B) → Result A BindFault → Result B BindFault → Type 0
GoesOn f (Err fault) result = result ≡ Err fault
GoesOn f (Ok a) result = Gives (f a) result

abbrev pub GoesOnBoth : {A B C : Type 0} → (A → B → Answer C) → Result A BindFault → Result B BindFault → Result C BindFault → Type 0
GoesOnBoth f (Err fault) right result = result ≡ Err fault
GoesOnBoth f (Ok a) right result = GoesOn (f a) right result

abbrev pub GoesOnThree : {A B C D : Type 0} → (A → B → C → Answer D) → Result A BindFault → Result B BindFault → Result C BindFault → Result D BindFault → Type 0
GoesOnThree f (Err fault) second third result = result ≡ Err fault
GoesOnThree f (Ok a) second third result = GoesOnBoth (f a) second third result
