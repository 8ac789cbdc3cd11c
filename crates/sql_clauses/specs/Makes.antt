-- What is made of values that memory may have run out for.
use Rattle.std.specs.Prelude.{◌≡◌, Result, Ok, Err, IfOk}
use Rattle.ooc_types.specs.declared.memory.OutOfMemory.{OutOfMemory}

-- a function of what is there
abbrev pub Makes : {A B : Type 0} → (A → B) → Result A OutOfMemory → Result B OutOfMemory → Type 0
Makes f (Err fault) result = result ≡ Err fault
Makes f (Ok a) result = IfOk result (λ b. b ≡ f a)

abbrev pub MakesBoth : {A B C : Type 0} → (A → B → C) → Result A OutOfMemory → Result B OutOfMemory → Result C OutOfMemory → Type 0
MakesBoth f (Err fault) right result = result ≡ Err fault
MakesBoth f (Ok a) right result = Makes (f a) right result

abbrev pub MakesThree : {A B C D : Type 0} → (A → B → C → D) → Result A OutOfMemory → Result B OutOfMemory → Result C OutOfMemory → Result D OutOfMemory → Type 0
MakesThree f (Err fault) second third result = result ≡ Err fault
MakesThree f (Ok a) second third result = MakesBoth (f a) second third result
