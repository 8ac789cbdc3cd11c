-- The items over a row, in a buffer.
use Rattle.std.specs.Prelude.{◌≡◌, Result, Ok, Err, ⊤}
use Rattle.sql_expr.specs.declared.fault.ValueFault.{ValueFault}
use Rattle.sql_expr.specs.declared.fault.EvalFault.{EvalFault}
use Rattle.sql_expr.specs.declared.fault.EvalFault.TheVariants.{Fault, OutOfMemory}
use Rattle.sql_meaning.specs.Found.{Row}

-- what the buffer has, the fault, or want of memory
abbrev pub Fills : {A : Type 0} → Result Row ValueFault → Row → Result A EvalFault → Type 0
Fills meaning made (Err OutOfMemory) = ⊤
Fills meaning made (Err (Fault fault)) = meaning ≡ Err fault
Fills meaning made (Ok done) = meaning ≡ Ok made
