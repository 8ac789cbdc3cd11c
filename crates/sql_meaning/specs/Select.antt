-- A SELECT over the rows of its sources.
use Rattle.std.specs.Option.{option_map}
use Rattle.std.specs.Prelude.{ℕ, ◌+◌, Bool, true, false, List, [], ◌∷◌, ◌++◌, flat_map, drop, Option, Some, None, Result, Ok, Err}
use Rattle.sql_expr.specs.declared.fault.ValueFault.{ValueFault}
use Rattle.sql_meaning.specs.Found.{Found, Row, clean, collected, and_then, unless_faulted, if_clean}
use Rattle.sql_meaning.specs.Judged.{Condition, RowValue, kept}
use Rattle.sql_meaning.specs.From.{Source, from_rows}
use Rattle.sql_meaning.specs.Groups.{Grouping, values, grouped}
use Rattle.ooc_bags.specs.Firsts.{firsts}
use Rattle.sql_meaning.specs.Ordered.{SortKey, row_cmp, sorted, limited}

-- A SELECT without its sources, set operations, order and limit. `inner` has the faults of the subqueries of WHERE.
pub record Core : Type 0 where
  pub conjuncts : List Condition
  pub inner : List ValueFault
  pub grouping : Option Grouping
  pub having : List Condition
  pub items : List RowValue
  pub distinct : Bool

-- ORDER BY, LIMIT and OFFSET
pub record Cut : Type 0 where
  pub keys : List SortKey
  pub limit : Option ℕ
  pub offset : ℕ

abbrev pub perhaps_grouped : Option Grouping → List Row → Found Row
perhaps_grouped None rows = clean rows
perhaps_grouped (Some grouping) rows = grouped grouping rows

abbrev pub item_found : Result Row ValueFault → Found Row
item_found (Err fault) = record { rows = []; faults = fault ∷ [] }
item_found (Ok row) = record { rows = row ∷ []; faults = [] }

-- the items over each row
abbrev pub projected : List RowValue → List Row → Found Row
projected items = collected (λ row. item_found (values items row))

abbrev pub perhaps_distinct : Bool → List Row → List Row
perhaps_distinct false rows = rows
perhaps_distinct true rows = firsts rows

-- in order, without the first m rows, and of the rest the first n
abbrev pub perhaps_cut : Option Cut → List Row → List Row
perhaps_cut None rows = rows
perhaps_cut (Some cut) rows = limited cut.limit (drop cut.offset (sorted (row_cmp cut.keys) rows))

-- FROM, WHERE and grouping
abbrev pub below_having : Core → List Source → Found Row
below_having core sources = and_then (and_then (from_rows sources) (kept core.conjuncts)) (perhaps_grouped core.grouping)

-- HAVING and the items, over rows below which nothing faulted
abbrev pub above_groups : Core → List Row → Found Row
above_groups core rows = if_clean (kept core.having rows) (projected core.items)

-- the faults of the subqueries in FROM and in WHERE
abbrev pub inner_faults : Core → List Source → List ValueFault
inner_faults core sources = flat_map (λ source. source.found.faults) sources ++ core.inner

-- Where a subquery has a noted fault, nothing else is taken. What follows grouping is taken only where nothing below
-- faulted.
abbrev pub selected : Core → List Source → Found Row
selected core sources =
    unless_faulted (inner_faults core sources)
    (if_clean (if_clean (below_having core sources) (above_groups core)) (λ rows. clean (perhaps_distinct core.distinct rows)))

-- ORDER BY, OFFSET and LIMIT over rows below which nothing faulted
abbrev pub cut_found : Option Cut → Found Row → Found Row
cut_found cut found = if_clean found (λ rows. clean (perhaps_cut cut rows))

abbrev pub up_to : Option Cut → List Row → List Row
up_to None rows = rows
up_to (Some cut) rows = limited (option_map (λ n. cut.offset + n) cut.limit) (sorted (row_cmp cut.keys) rows)

-- the rows whose lines are counted for ResultTooLarge: the first m + n under LIMIT n OFFSET m, else all
abbrev pub counted_rows : Option Cut → Found Row → List Row
counted_rows cut found = up_to cut found.rows
