-- What the functions that read ensure.
use Rattle.std.specs.Prelude.{◌≡◌, ◌≢◌, List, Result, Ok, Err}
use Rattle.sql_grammar.specs.Lexeme.{Lexeme}
use Rattle.sql_grammar.specs.declared.fault.Fault.{Fault}
use Rattle.sql_grammar.specs.declared.fault.Fault.TheVariants.{OutOfMemory}
use Rattle.sql_grammar.specs.Reading.{Outcome, Parser}

-- What a function that reads ensures: the outcome, and where the cursor stands, unless memory runs out.
abbrev pub Gives : {A : Type 0} → Outcome A → Result A Fault → List Lexeme → Type 0
Gives outcome (Ok a) new = outcome ≡ Ok (a, new)
Gives outcome (Err e) new = e ≢ OutOfMemory → outcome ≡ Err (e, new)

-- What a function ensures that makes something of what was read, or hands on the fault.
abbrev pub Makes : {A B : Type 0} → (A → B) → Result A Fault → Result B Fault → Type 0
Makes f (Err e) result = result ≡ Err e
Makes f (Ok a) (Err e) = e ≡ OutOfMemory
Makes f (Ok a) (Ok b) = b ≡ f a

-- What a function ensures that goes on behind what was read, or hands on the fault.
abbrev pub GoesOn : {A B : Type 0} → (A → Parser B) → Result A Fault → List Lexeme → Result B Fault → List Lexeme → Type 0
GoesOn next (Err e) old result new = (result ≡ Err e) × (new ≡ old)
GoesOn next (Ok a) old result new = Gives (next a old) result new
