-- A SELECT over one table.
use Rattle.std.proofs.Common.{◌≡◌, Bool, List, [], ◌∷◌, ◌++◌, refl, sym, ap, ap₂, ◌∙◌, append-nil}
use Rattle.sql_expr.specs.declared.fault.ValueFault.{ValueFault}
use Rattle.sql_meaning.specs.Found.{Found, Row, clean, and_then, if_clean, unless_faulted}
use Rattle.sql_meaning.specs.From.{from_rows, pairs}
use Rattle.sql_meaning.specs.Judged.{Condition, RowValue, kept}
use Rattle.sql_meaning.specs.Select.{selected, projected, below_having}
use Rattle.plain_rows.specs.Answers.{distinct_found}
use Rattle.plain_rows.specs.Cores.{plain_core, table_source}

all-kept : (rows : List Row) → (kept [] rows).rows ≡ rows
all-kept [] = refl
all-kept (row ∷ rows) = ap (λ l. row ∷ l) (all-kept rows)

none-noted : (rows : List Row) → (kept [] rows).faults ≡ []
none-noted [] = refl
none-noted (row ∷ rows) = none-noted rows

bare : (rows : List Row) → pairs [] rows ≡ rows
bare [] = refl
bare (row ∷ rows) = ap (λ l. row ∷ l) (bare rows)

-- a FROM of one table gives its rows
pub from-table : (rows : List Row) → from_rows (table_source rows ∷ []) ≡ clean rows
from-table rows =
    let at = append-nil (kept [] (pairs [] rows)).rows ∙ all-kept (pairs [] rows) ∙ bare rows in
    let none = append-nil ((kept [] (pairs [] rows)).faults ++ []) ∙ append-nil (kept [] (pairs [] rows)).faults ∙ none-noted (pairs [] rows) in
    λ k. record { rows = at k; faults = none k }

-- HAVING without conditions
none-having : (items : List RowValue) (rows : List Row) → if_clean (kept [] rows) (projected items) ≡ projected items rows
none-having items rows = ap₂ (λ (fs : List ValueFault) (rs : List Row). unless_faulted fs (projected items rs)) (none-noted rows) (all-kept rows)

no-more : (f : Found Row) → and_then f clean ≡ f
no-more f = let e = append-nil f.faults in λ k. record { rows = f.rows; faults = e k }

pub table-selected : (conjuncts : List Condition) (items : List RowValue) (distinct : Bool) (rows : List Row)
    → distinct_found distinct (if_clean (kept conjuncts rows) (projected items)) ≡ selected (plain_core conjuncts items distinct) (table_source rows ∷ [])
table-selected conjuncts items distinct rows =
    let below : below_having (plain_core conjuncts items distinct) (table_source rows ∷ []) ≡ kept conjuncts rows =
    no-more (and_then (from_rows (table_source rows ∷ [])) (kept conjuncts)) ∙ ap (λ (f : Found Row). and_then f (kept conjuncts)) (from-table rows) in
    let above : (f : Found Row) → if_clean f (λ rs. if_clean (kept [] rs) (projected items)) ≡ if_clean f (projected items) =
    λ f. ap (unless_faulted f.faults) (none-having items f.rows) in
    ap (distinct_found distinct) (sym (ap (λ (f : Found Row). if_clean f (λ rs. if_clean (kept [] rs) (projected items))) below ∙ above (kept conjuncts rows)))
