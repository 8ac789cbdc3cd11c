-- What is made of parts, each of which was made or wasn't for want of memory.
use Rattle.std.specs.Prelude.{◌≡◌, Result, Ok, Err, IfOk}

abbrev pub GoesOn : {A B E : Type 0} → (A → B) → Result A E → Result B E → Type 0
GoesOn f (Err e) result = IfOk result (λ b. ⊥)
GoesOn f (Ok a) result = IfOk result (λ b. b ≡ f a)

abbrev pub GoesOnBoth : {A B C E : Type 0} → (A → B → C) → Result A E → Result B E → Result C E → Type 0
GoesOnBoth f (Err e) second result = IfOk result (λ c. ⊥)
GoesOnBoth f (Ok a) second result = GoesOn (f a) second result
