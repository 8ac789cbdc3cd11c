-- How answers of evaluation tell a value or a fault.
use Rattle.std.specs.Prelude.{◌≡◌, ℕ, ℤ, List, Option, Some, None, Result, Ok, Err, ⊤}
use Rattle.ooc_types.specs.declared.truth.Truth.{Truth as Ternary}
use Rattle.ooc_types.specs.declared.value.Value.{Value}
use Rattle.ooc_types.specs.declared.value.Value.TheVariants.{Null, Truth, Number, Day, Text}
use Rattle.ooc_types.specs.declared.schema.SqlType.{SqlType}
use Rattle.sql_expr.specs.declared.fault.ValueFault.{ValueFault}
use Rattle.sql_expr.specs.declared.fault.ValueFault.TheVariants.{Overflow}
use Rattle.sql_expr.specs.declared.fault.EvalFault.{EvalFault}
use Rattle.sql_expr.specs.declared.fault.EvalFault.TheVariants.{Fault, OutOfMemory}
use Rattle.sql_expr.specs.Arithmetic.{Meaning, amount}
use Rattle.sql_expr.specs.Logic.{truth_value}

-- a truth, or a fault
abbrev pub truth_meaning : Result Ternary ValueFault → Meaning
truth_meaning (Err fault) = Err fault
truth_meaning (Ok truth) = Ok (truth_value truth)

-- the digits of an amount of a type, or NULL
abbrev pub amount_value : SqlType → Option ℤ → Value
amount_value kind None = Null
amount_value kind (Some digits) = amount kind digits

abbrev pub amount_meaning : SqlType → Result (Option ℤ) ValueFault → Meaning
amount_meaning kind (Err fault) = Err fault
amount_meaning kind (Ok digits) = Ok (amount_value kind digits)

-- the value or the fault, or want of memory
abbrev pub Tells : Meaning → Result Value EvalFault → Type 0
Tells meaning (Err OutOfMemory) = ⊤
Tells meaning (Err (Fault fault)) = meaning ≡ Err fault
Tells meaning (Ok value) = meaning ≡ Ok value

-- the digits of a number or the number of a day, and none of another value
abbrev pub digits_of : Value → Option ℤ
digits_of (Number digits scale) = Some digits
digits_of (Day day) = Some day
digits_of Null = None
digits_of (Truth truth) = None
digits_of (Text bytes) = None

-- what arithmetic gave, and Overflow where it gave none
abbrev pub told : Option ℤ → Result (Option ℤ) ValueFault
told (Some digits) = Ok (Some digits)
told None = Err Overflow

-- a text, or NULL
abbrev pub text_value : Option (List ℕ) → Value
text_value None = Null
text_value (Some bytes) = Text bytes

-- the bytes of a text, and none of another value
abbrev pub bytes_in : Value → Option (List ℕ)
bytes_in (Text bytes) = Some bytes
bytes_in Null = None
bytes_in (Truth truth) = None
bytes_in (Number digits scale) = None
bytes_in (Day day) = None
