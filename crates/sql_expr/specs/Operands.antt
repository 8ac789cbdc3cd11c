-- Operands that were evaluated.
use Rattle.std.specs.Prelude.{◌≡◌, Result, Ok, Err}
use Rattle.std.specs.Option.{option_copied}
use Rattle.ooc_types.specs.declared.value.Value.{Value}
use Rattle.ooc_types.specs.declared.schema.SqlType.{SqlType}
use Rattle.ooc_types.specs.declared.schema.SqlType.TheVariants.{Boolean}
use Rattle.sql_expr.specs.declared.fault.ValueFault.{ValueFault}
use Rattle.sql_expr.specs.declared.operand.Operand.{Operand}
use Rattle.sql_expr.specs.declared.operand.Operand.TheVariants.{Truth, Amount, Text}
use Rattle.sql_expr.specs.Arithmetic.{Meaning}
use Rattle.sql_expr.specs.Logic.{truth_value}
use Rattle.sql_expr.specs.Operations.{IsAmount, IsText}
use Rattle.sql_expr.specs.Outcomes.{amount_value, text_value}

abbrev pub operand_value : Operand → Value
operand_value (Truth truth) = truth_value truth
operand_value (Amount digits kind) = amount_value kind digits
operand_value (Text bytes) = text_value (option_copied bytes)

abbrev pub operand_meaning : Result Operand ValueFault → Meaning
operand_meaning (Err fault) = Err fault
operand_meaning (Ok operand) = Ok (operand_value operand)

-- the operand of an expression of this type
abbrev pub IsOperandOf : SqlType → Operand → Type 0
IsOperandOf kind (Truth truth) = kind ≡ Boolean
IsOperandOf kind (Amount digits other) = IsAmount kind × (other ≡ kind)
IsOperandOf kind (Text bytes) = IsText kind
