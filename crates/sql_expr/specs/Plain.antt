-- Plain conditions, which can't fault.
use Rattle.std.specs.Prelude.{Bool, true, false, ◌&&◌, List, [], ◌∷◌, Ok, Err, ⊤}
use Rattle.ooc_types.specs.declared.schema.SqlType.{SqlType}
use Rattle.ooc_types.specs.declared.schema.SqlType.TheVariants.{Boolean, Integer, BigInt, HugeInt, Decimal, Date, Varchar}
use Rattle.sql_expr.specs.declared.tree.Expr.{Expr}
use Rattle.sql_expr.specs.declared.tree.Link.{Link}
use Rattle.sql_expr.specs.declared.tree.Expr.TheOpen.{Expr-F, Link-F}
use Rattle.sql_expr.specs.declared.tree.Expr.TheFolds.{fold-Expr, fold-Link}
use Rattle.sql_expr.specs.Arithmetic.{Meaning}

-- An expression may be a literal; a column or a constant, which is a literal with or without a minus; and a plain
-- condition.
pub record Plainness : Type 0 where
  pub literal : Bool
  pub operand : Bool
  pub condition : Bool

abbrev pub is_boolean : SqlType → Bool
is_boolean Boolean = true
is_boolean Integer = false
is_boolean BigInt = false
is_boolean HugeInt = false
is_boolean (Decimal width scale) = false
is_boolean Date = false
is_boolean Varchar = false

abbrev pub all_operands : List Plainness → Bool
all_operands [] = true
all_operands (one ∷ list) = one.operand && all_operands list

abbrev pub all_conditions : List Plainness → Bool
all_conditions [] = true
all_conditions (one ∷ list) = one.condition && all_conditions list

abbrev pub a_condition : Bool → Plainness
a_condition plain = record { literal = false; operand = false; condition = plain }

-- A condition is plain where it is made by AND, OR and NOT of: a comparison, BETWEEN, LIKE or IN whose operands are
-- columns and constants; IS NULL of a column or constant; a BOOLEAN column or constant.
abbrev pub plain_step : Expr-F Plainness Plainness → Plainness
plain_step (Expr-F.Constant value kind) = record { literal = true; operand = true; condition = is_boolean kind }
plain_step (Expr-F.Column place kind) = record { literal = false; operand = true; condition = is_boolean kind }
plain_step (Expr-F.Not of) = a_condition of.condition
plain_step (Expr-F.Minus of kind) = record { literal = false; operand = of.literal; condition = false }
plain_step (Expr-F.Every list) = a_condition (all_conditions list)
plain_step (Expr-F.Either list) = a_condition (all_conditions list)
plain_step (Expr-F.Chain first links) = a_condition false
plain_step (Expr-F.Compare sign left right) = a_condition (left.operand && right.operand)
plain_step (Expr-F.IsNull of negated) = a_condition of.operand
plain_step (Expr-F.Like of pattern negated) = a_condition of.operand
plain_step (Expr-F.OneOf of list negated) = a_condition (of.operand && all_operands list)
plain_step (Expr-F.Between of low high negated) = a_condition (of.operand && (low.operand && high.operand))

abbrev pub link_plain_step : Link-F Plainness Plainness → Plainness
link_plain_step link = link.right

abbrev pub plainness : Expr → Plainness
plainness = fold-Expr Plainness Plainness plain_step link_plain_step

abbrev pub link_plainness : Link → Plainness
link_plainness = fold-Link Plainness Plainness plain_step link_plain_step

-- a value, and no fault
abbrev pub IsFaultless : Meaning → Type 0
IsFaultless (Err fault) = ⊥
IsFaultless (Ok value) = ⊤
