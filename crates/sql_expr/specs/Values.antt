-- Facts of the values that expressions have.
use Rattle.std.specs.Prelude.{ℕ, ◌≤◌, length, Ok, Err, ⊤}
use Rattle.ooc_types.specs.declared.value.Value.{Value}
use Rattle.ooc_types.specs.declared.value.Value.TheVariants.{Null, Truth, Number, Day, Text}
use Rattle.ooc_types.specs.declared.schema.SqlType.{SqlType}
use Rattle.ooc_types.specs.Meets.{IsInRange, IsDay}
use Rattle.sql_expr.specs.declared.tree.Expr.{Expr}
use Rattle.sql_expr.specs.declared.tree.Link.{Link}
use Rattle.sql_expr.specs.declared.tree.Expr.TheOpen.{Expr-F}
use Rattle.sql_expr.specs.declared.tree.Expr.TheFolds.{every-Expr}
use Rattle.sql_expr.specs.Arithmetic.{Meaning}
use Rattle.sql_expr.specs.Typing.{AnyLink}

-- a fact of the value, where there is one and no fault
abbrev pub OnValue : (Value → Type 0) → Meaning → Type 0
OnValue Fact (Err fault) = ⊤
OnValue Fact (Ok value) = Fact value

-- a number in the range of its type, and a day of the calendar
abbrev pub IsRanged : SqlType → Value → Type 0
IsRanged kind Null = ⊤
IsRanged kind (Truth truth) = ⊤
IsRanged kind (Number digits scale) = IsInRange kind digits
IsRanged kind (Day day) = IsDay day
IsRanged kind (Text bytes) = ⊤

-- a text of at most `limit` bytes
abbrev pub IsWithinLimit : ℕ → Value → Type 0
IsWithinLimit limit Null = ⊤
IsWithinLimit limit (Truth truth) = ⊤
IsWithinLimit limit (Number digits scale) = ⊤
IsWithinLimit limit (Day day) = ⊤
IsWithinLimit limit (Text bytes) = length bytes ≤ limit

abbrev pub IsShortNode : ℕ → Expr-F Expr Link → Type 0
IsShortNode limit (Expr-F.Constant value kind) = IsWithinLimit limit value
IsShortNode limit (Expr-F.Column place kind) = ⊤
IsShortNode limit (Expr-F.Not of) = ⊤
IsShortNode limit (Expr-F.Minus of kind) = ⊤
IsShortNode limit (Expr-F.Every list) = ⊤
IsShortNode limit (Expr-F.Either list) = ⊤
IsShortNode limit (Expr-F.Chain first links) = ⊤
IsShortNode limit (Expr-F.Compare sign left right) = ⊤
IsShortNode limit (Expr-F.IsNull of negated) = ⊤
IsShortNode limit (Expr-F.Like of pattern negated) = ⊤
IsShortNode limit (Expr-F.OneOf of list negated) = ⊤
IsShortNode limit (Expr-F.Between of low high negated) = ⊤

-- an expression whose literals that are texts have at most `limit` bytes
abbrev pub HasShortTexts : ℕ → Expr → Type 0
HasShortTexts limit = every-Expr (IsShortNode limit) AnyLink
