-- Conditions of ON, WHERE and HAVING.
use Rattle.std.specs.Prelude.{Bool, true, false, not, List, [], ◌∷◌, ◌++◌, filter, Result, Ok, Err}
use Rattle.ooc_types.specs.declared.truth.Truth.{Truth as Ternary}
use Rattle.ooc_types.specs.declared.truth.Truth.TheVariants.{Yes, No, Unknown}
use Rattle.sql_expr.specs.declared.fault.ValueFault.{ValueFault}
use Rattle.sql_expr.specs.Arithmetic.{Meaning}
use Rattle.sql_expr.specs.Logic.{truth_in}
use Rattle.sql_meaning.specs.Found.{Found, Row, collected}

-- a value that is computed of a row, or its fault
abbrev pub RowValue : Type 0
RowValue = Row → Meaning

-- A condition: what it says of a row, or its fault; and whether it is plain. A plain condition is made of comparisons
-- of columns and constants, so it can't fault; an expression and IN with a subquery are both conditions.
pub record Condition : Type 0 where
  pub plain : Bool
  pub says : RowValue

abbrev pub says : Row → Condition → Meaning
says row condition = condition.says row

abbrev pub is_plain : Condition → Bool
is_plain condition = condition.plain

-- whether a row is kept, or its fault
abbrev pub Verdict : Type 0
Verdict = Result Bool ValueFault

-- the later conditions judge where this truth is true
abbrev pub if_true : Ternary → Verdict → Verdict
if_true Yes later = later
if_true No later = Ok false
if_true Unknown later = Ok false

abbrev pub then_judged : Meaning → Verdict → Verdict
then_judged (Err fault) later = Err fault
then_judged (Ok value) later = if_true (truth_in value) later

-- The conditions from left to right: the first that isn't true settles it. This isn't AND: NULL AND a fault is the
-- fault, but a condition that is NULL drops the row, and no later one acts on it.
abbrev pub judged : List Condition → Row → Verdict
judged [] row = Ok true
judged (condition ∷ conditions) row = then_judged (says row condition) (judged conditions row)

-- the row where it is kept; a row that faults is left out and noted
abbrev pub verdict_found : Row → Verdict → Found Row
verdict_found row (Err fault) = record { rows = []; faults = fault ∷ [] }
verdict_found row (Ok true) = record { rows = row ∷ []; faults = [] }
verdict_found row (Ok false) = record { rows = []; faults = [] }

-- all plain conjuncts, and then the others
abbrev pub plain_first : List Condition → List Condition
plain_first conjuncts = filter is_plain conjuncts ++ filter (λ conjunct. not (is_plain conjunct)) conjuncts

-- the rows that conditions keep, which act in the order of the list
abbrev pub filtered : List Condition → List Row → Found Row
filtered conditions = collected (λ row. verdict_found row (judged conditions row))

-- The rows that the conjuncts keep. Plain ones act first, then the others from left to right.
abbrev pub kept : List Condition → List Row → Found Row
kept conjuncts = collected (λ row. verdict_found row (judged (plain_first conjuncts) row))
