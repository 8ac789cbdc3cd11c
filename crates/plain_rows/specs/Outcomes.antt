-- How answers of an evaluation tell a result or a fault.
use Rattle.std.specs.Prelude.{◌≡◌, ◌++◌, Result, Ok, Err, ⊤}
use Rattle.sql_meaning.specs.Found.{Row}
use Rattle.sql_expr.specs.declared.fault.ValueFault.{ValueFault}
use Rattle.sql_expr.specs.declared.fault.EvalFault.{EvalFault}
use Rattle.sql_expr.specs.declared.fault.EvalFault.TheVariants.{Fault, OutOfMemory}

-- the result or the fault, or want of memory
abbrev pub Told : {A : Type 0} → Result A ValueFault → Result A EvalFault → Type 0
Told meaning (Err OutOfMemory) = ⊤
Told meaning (Err (Fault fault)) = meaning ≡ Err fault
Told meaning (Ok one) = meaning ≡ Ok one

-- the values that are there, and then the others
abbrev pub put_before : Row → Result Row ValueFault → Result Row ValueFault
put_before made (Err fault) = Err fault
put_before made (Ok others) = Ok (made ++ others)
