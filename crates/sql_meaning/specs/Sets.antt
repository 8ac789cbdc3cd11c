-- Set operations, and IN with a list of values: what later forms add.
use Rattle.std.specs.Prelude.{ℕ, ◌+◌, ◌-◌, min, List, ◌++◌, flat_map, replicate, count_by, fold}
use Rattle.ooc_types.specs.declared.truth.Truth.{Truth as Ternary}
use Rattle.ooc_types.specs.declared.truth.Truth.TheVariants.{No}
use Rattle.ooc_types.specs.declared.value.Value.{Value}
use Rattle.ooc_bags.specs.Rows.{row_eq}
use Rattle.sql_expr.specs.declared.tree.CompareSign.TheVariants.{Equal}
use Rattle.sql_expr.specs.Comparison.{compared}
use Rattle.sql_expr.specs.Logic.{truth_in, or_truth}
use Rattle.sql_meaning.specs.Found.{Row}
use Rattle.ooc_bags.specs.Firsts.{firsts}

-- how often a row stands in the result that stands so often in the left and in the right list
abbrev pub Times : Type 0
Times = ℕ → ℕ → ℕ

-- never, or once
abbrev pub once : ℕ → ℕ
once n = min 1 n

abbrev pub union_all : Times
union_all a b = a + b

abbrev pub union : Times
union a b = once (a + b)

abbrev pub intersect_all : Times
intersect_all a b = min a b

abbrev pub intersect : Times
intersect a b = once (min a b)

abbrev pub except_all : Times
except_all a b = a - b

abbrev pub except : Times
except a b = once a - once b

-- the rows of both lists, in the order of first sight, each so often
abbrev pub combined : Times → List Row → List Row → List Row
combined times left right =
    flat_map (λ row. replicate (times (count_by (row_eq row) left) (count_by (row_eq row) right)) row) (firsts (left ++ right))

-- true where a value equals x; else unknown where one is compared with NULL; else false
abbrev pub member : Value → List Value → Ternary
member x = fold (λ found value. or_truth found (truth_in (compared Equal x value))) No
