-- Tests as the conditions that they are.
use Rattle.std.specs.Prelude.{◌≡◌, Option, Some, None, Bool, true, false, not, if◌then◌else◌, List, Result, Ok, Err, ⊤}
use Rattle.ooc_types.specs.declared.schema.SqlType.TheVariants.{Boolean}
use Rattle.ooc_types.specs.declared.value.Value.{Value}
use Rattle.ooc_types.specs.declared.truth.Truth.{Truth as Ternary}
use Rattle.sql_expr.specs.declared.fault.EvalFault.{EvalFault}
use Rattle.sql_expr.specs.declared.fault.EvalFault.TheVariants.{Fault, OutOfMemory}
use Rattle.sql_expr.specs.declared.tree.Expr.{Expr}
use Rattle.sql_expr.specs.Arithmetic.{Meaning}
use Rattle.sql_expr.specs.Kinds.{kind_of}
use Rattle.sql_expr.specs.Logic.{truth_value}
use Rattle.sql_expr.specs.Meaning.{value_of}
use Rattle.sql_expr.specs.Typing.{FitsRow}
use Rattle.sql_meaning.specs.Found.{Found, Row}
use Rattle.sql_meaning.specs.Judged.{Condition, Verdict, judged, is_plain, plain_first, says, then_judged, verdict_found}
use Rattle.sql_meaning.specs.Statements.{condition_of, member_says}
use Rattle.plain_rows.specs.declared.test.Test.{Test}
use Rattle.plain_rows.specs.declared.test.Test.TheVariants as of

-- values, and whether one is asked to be among them or not
pub record Among : Type 0 where
  pub values : List Value
  pub negated : Bool

-- what a test is made of: an expression, and for IN the values
pub record Parts : Type 0 where
  pub of : Expr
  pub among : Option Among

abbrev pub parts_in : Test → Parts
parts_in (of.Condition expr) = record { of = expr.now; among = None }
parts_in (of.Member expr values negated) = record { of = expr.now; among = Some (record { values = values.now; negated = negated }) }

-- an expression alone
abbrev pub parts_of : Expr → Parts
parts_of expr = record { of = expr; among = None }

-- IN isn't plain
abbrev pub condition_in : Test → Condition
condition_in (of.Condition expr) = condition_of expr.now
condition_in (of.Member expr values negated) = record { plain = false; says = λ row. member_says negated values.now (value_of row expr.now) }

abbrev pub FitsItem : Row → Expr → Type 0
FitsItem row expr = FitsRow expr row

-- a test that a row can be judged by
abbrev pub IsReady : Row → Test → Type 0
IsReady row (of.Condition expr) = FitsRow expr.now row × (kind_of expr.now ≡ Boolean)
IsReady row (of.Member expr values negated) = FitsRow expr.now row

-- the truth of a value or the fault, or want of memory
abbrev pub TellsTruth : Meaning → Result Ternary EvalFault → Type 0
TellsTruth meaning (Err OutOfMemory) = ⊤
TellsTruth meaning (Err (Fault fault)) = meaning ≡ Err fault
TellsTruth meaning (Ok truth) = meaning ≡ Ok (truth_value truth)

-- whether a condition is of this kind, plain or not
abbrev pub acts_here : Bool → Condition → Bool
acts_here plain condition = if plain then is_plain condition else not (is_plain condition)

-- what a condition of this kind says by itself; one of the other kind keeps the row
abbrev pub judged_by_one : Bool → Condition → Row → Verdict
judged_by_one plain condition row = if acts_here plain condition then then_judged (says row condition) (Ok true) else Ok true

-- the row where the conditions keep it, or the fault
abbrev pub kept_of : List Condition → Row → Found Row
kept_of conditions row = verdict_found row (judged (plain_first conditions) row)

-- the condition that is made of these parts
abbrev pub condition_among : Expr → Option Among → Condition
condition_among expr None = condition_of expr
condition_among expr (Some among) = record { plain = false; says = λ row. member_says among.negated among.values (value_of row expr) }

abbrev pub condition_by : Parts → Condition
condition_by parts = condition_among parts.of parts.among
