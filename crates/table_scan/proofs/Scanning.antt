-- What a SELECT over one table means, over the rows of the table.
use Rattle.std.proofs.Common.{◌≡◌, ℕ, Bool, true, false, true≢false, List, [], ◌∷◌, ◌++◌, length, map, refl, sym, ap, ap₂, ◌∙◌, arith}
use Rattle.std.specs.Prelude.{flat_map, not, ◌&&◌, Option, Some, None, Err, Contains}
use Rattle.std.specs.List.{list_all}
use Rattle.ooc_types.specs.declared.schema.Column.{Column}
use Rattle.sql_expr.specs.declared.fault.ValueFault.{ValueFault}
use Rattle.sql_expr.specs.declared.tree.Expr.{Expr}
use Rattle.bound_tree.specs.declared.kinds.JoinKind.{JoinKind}
use Rattle.bound_tree.specs.declared.kinds.JoinKind.TheVariants.{First, Inner, Left, Cross}
use Rattle.bound_tree.specs.declared.select.Cut.{Cut}
use Rattle.bound_tree.specs.declared.select.Grouping.{Grouping}
use Rattle.bound_tree.specs.declared.select.BoundCore.{BoundCore}
use Rattle.bound_tree.specs.declared.select.BoundRows.{BoundRows}
use Rattle.bound_tree.specs.declared.select.BoundSelect.{BoundSelect}
use Rattle.bound_tree.specs.declared.select.BoundSource.{BoundSource}
use Rattle.bound_tree.specs.declared.select.Conjunct.{Conjunct}
use Rattle.bound_tree.specs.declared.select.SourceRows.{SourceRows}
use Rattle.bound_tree.specs.declared.select.BoundRows.TheOpen.{BoundRows-F, Conjunct-F, SourceRows-F}
use Rattle.bound_tree.specs.declared.select.BoundRows.TheFolds.{fold_out-BoundCore, fold_out-BoundRows, fold_out-BoundSource, fold_out-Conjunct, fold_out-SourceRows, map-BoundRows, map-Conjunct, map-SourceRows}
use Rattle.bound_tree.specs.declared.select.BoundRows.TheViews.{out-BoundCore, out-BoundRows, out-BoundSelect, out-BoundSource, out-Conjunct, out-SourceRows}
use Rattle.sql_meaning.specs.Found.{Found, Row, clean, unless_faulted}
use Rattle.sql_meaning.specs.From.{Source}
use Rattle.sql_meaning.specs.Judged.{Condition, RowValue}
use Rattle.sql_meaning.specs.Select.{Core, counted_rows, cut_found, perhaps_cut, selected}
use Rattle.sql_meaning.specs.Statements.{Tables, Meant, condition_of, row_value_of, pads_of, core_of, cut_of, rows_step, conjunct_step, source_rows_step, core_step, select_step, source_step, rows_meaning, select_meaning, conjunct_meaning, source_rows_meaning, core_meaning, source_meaning}
use Rattle.sql_meaning.proofs.TablesLemmas.{select-is}
use Rattle.plain_rows.proofs.OneTable.{table-selected}
use Rattle.script_says.specs.Selecting.{shown, shown_of}
use Rattle.table_scan.specs.declared.fault.SelectFault.TheVariants as fault
use Rattle.table_scan.specs.Outcomes.{IsShown}
use Rattle.table_scan.specs.Scan.{condition_in_node, conditions_among, core_in, core_of_select, has_none, is_condition, is_condition_in, is_first, is_first_table, is_one_table, is_scan_core, is_table_in, is_ungrouped, table_in, table_of_sources}
use Rattle.table_scan.specs.Sets.{core_scanned, scanned, shown_found}

pub both-true : (a b : Bool) → (a && b) ≡ true → (a ≡ true) × (b ≡ true)
both-true true b e = (refl, e)
both-true false b e = absurd (true≢false (sym e))

no-pads : (join : JoinKind) → is_first join ≡ true → pads_of join ≡ false
no-pads First e = refl
no-pads Inner e = refl
no-pads Left e = absurd (true≢false (sym e))
no-pads Cross e = refl

no-on : (on : List Expr) → has_none on ≡ true → map condition_of on ≡ []
no-on [] e = refl
no-on (expr ∷ on) e = absurd (true≢false (sym e))

abbrev one_source : ℕ → List Row → Source
one_source width rows = record { found = clean rows; width = width; pads = false; on = [] }

abbrev bare_core : List Condition → List ValueFault → List RowValue → Core
bare_core conditions inner items = record { conjuncts = conditions; inner = inner; grouping = None; having = []; items = items; distinct = false }

one-selected : (width : ℕ) (conditions : List Condition) (items : List RowValue) (rows : List Row) → selected (bare_core conditions [] items) (one_source width rows ∷ []) ≡ scanned conditions items rows
one-selected width conditions items rows = sym (table-selected conditions items false rows)

module _ (tables : Tables) where
  rows-of-table : (x : SourceRows) → is_table_in (out-SourceRows x) ≡ true → source_rows_meaning tables x ≡ clean (tables (table_in (out-SourceRows x)))
  rows-of-table x is = fold_out-SourceRows (Found Row) Meant (Found Row) (Found Row) (Found Row) Source rows_step conjunct_step (source_rows_step tables) core_step select_step source_step x ∙ go (out-SourceRows x) is
    where
      go : (y : SourceRows-F BoundRows Conjunct SourceRows BoundCore BoundSelect BoundSource) → is_table_in y ≡ true
          → source_rows_step tables (map-SourceRows BoundRows Conjunct SourceRows BoundCore BoundSelect BoundSource (Found Row) Meant (Found Row) (Found Row) (Found Row) Source (rows_meaning tables) (conjunct_meaning tables) (source_rows_meaning tables) (core_meaning tables) (select_meaning tables) (source_meaning tables) y)
          ≡ clean (tables (table_in y))
      go (SourceRows-F.Table name) e = refl
      go (SourceRows-F.Query select) e = absurd (true≢false (sym e))

  first-source : (source : BoundSource) → is_first_table source ≡ true
      → source_meaning tables source ≡ one_source (length (out-BoundSource source).kinds) (tables (table_in (out-SourceRows (out-BoundSource source).rows)))
  first-source source is =
      let s = out-BoundSource source in
      let a = both-true (is_table_in (out-SourceRows s.rows)) (is_first s.join && has_none s.on) is in
      let b = both-true (is_first s.join) (has_none s.on) a.1 in
      let rows = rows-of-table s.rows a.0 in
      let pads = no-pads s.join b.0 in
      let on = no-on s.on b.1 in
      fold_out-BoundSource (Found Row) Meant (Found Row) (Found Row) (Found Row) Source rows_step conjunct_step (source_rows_step tables) core_step select_step source_step source
      ∙ (λ k. record { found = rows k; width = length s.kinds; pads = pads k; on = on k })

  abbrev conjunct_from : Conjunct-F BoundRows Conjunct SourceRows BoundCore BoundSelect BoundSource → Meant
  conjunct_from y = conjunct_step (map-Conjunct BoundRows Conjunct SourceRows BoundCore BoundSelect BoundSource (Found Row) Meant (Found Row) (Found Row) (Found Row) Source (rows_meaning tables) (conjunct_meaning tables) (source_rows_meaning tables) (core_meaning tables) (select_meaning tables) (source_meaning tables) y)

  conjunct-is : (x : Conjunct) → conjunct_meaning tables x ≡ conjunct_from (out-Conjunct x)
  conjunct-is x = fold_out-Conjunct (Found Row) Meant (Found Row) (Found Row) (Found Row) Source rows_step conjunct_step (source_rows_step tables) core_step select_step source_step x

  one-condition : (y : Conjunct-F BoundRows Conjunct SourceRows BoundCore BoundSelect BoundSource) (m : Meant) (cs : List Condition) (exprs : List Expr) → is_condition_in y ≡ true → m ≡ conjunct_from y
      → cs ≡ map condition_of exprs → m.condition ∷ cs ≡ map condition_of (condition_in_node y ++ exprs)
  one-condition (Conjunct-F.Condition expr) m cs exprs e is rest = ap₂ (λ (m : Meant) (cs : List Condition). m.condition ∷ cs) is rest
  one-condition (Conjunct-F.Member of query negated) m cs exprs e is rest = absurd (true≢false (sym e))

  one-inner : (y : Conjunct-F BoundRows Conjunct SourceRows BoundCore BoundSelect BoundSource) (m : Meant) (fs : List ValueFault) → is_condition_in y ≡ true → m ≡ conjunct_from y → fs ≡ [] → m.faults ++ fs ≡ []
  one-inner (Conjunct-F.Condition expr) m fs e is rest = ap₂ (λ (m : Meant) (fs : List ValueFault). m.faults ++ fs) is rest
  one-inner (Conjunct-F.Member of query negated) m fs e is rest = absurd (true≢false (sym e))

  all-conditions : (cs : List Conjunct) → list_all is_condition cs ≡ true → map (λ (meant : Meant). meant.condition) (map (conjunct_meaning tables) cs) ≡ map condition_of (conditions_among cs)
  all-conditions [] e = refl
  all-conditions (c ∷ cs) e =
      let both = both-true (is_condition c) (list_all is_condition cs) e in
      one-condition (out-Conjunct c) (conjunct_meaning tables c) (map (λ (meant : Meant). meant.condition) (map (conjunct_meaning tables) cs)) (conditions_among cs) both.0 (conjunct-is c) (all-conditions cs both.1)

  none-inner : (cs : List Conjunct) → list_all is_condition cs ≡ true → flat_map (λ (meant : Meant). meant.faults) (map (conjunct_meaning tables) cs) ≡ []
  none-inner [] e = refl
  none-inner (c ∷ cs) e =
      let both = both-true (is_condition c) (list_all is_condition cs) e in
      one-inner (out-Conjunct c) (conjunct_meaning tables c) (flat_map (λ (meant : Meant). meant.faults) (map (conjunct_meaning tables) cs)) both.0 (conjunct-is c) (none-inner cs both.1)

  core-parts : (sources : List BoundSource) (cs : List Conjunct) (grouping : Option Grouping) (items : List Expr) (distinct : Bool)
      → (is_one_table sources && (list_all is_condition cs && (is_ungrouped grouping && not distinct))) ≡ true
      → selected (core_of (map (conjunct_meaning tables) cs) grouping items distinct) (map (source_meaning tables) sources)
      ≡ scanned (map condition_of (conditions_among cs)) (map row_value_of items) (tables (table_of_sources sources))
  core-parts [] cs grouping items distinct e = absurd (true≢false (sym e))
  core-parts (source ∷ second ∷ more) cs grouping items distinct e = absurd (true≢false (sym e))
  core-parts (source ∷ []) cs (Some grouping) items distinct e =
      let a = both-true (is_first_table source) (list_all is_condition cs && false) e in
      let b = both-true (list_all is_condition cs) false a.1 in absurd (true≢false (sym b.1))
  core-parts (source ∷ []) cs None items true e =
      let a = both-true (is_first_table source) (list_all is_condition cs && false) e in
      let b = both-true (list_all is_condition cs) false a.1 in absurd (true≢false (sym b.1))
  core-parts (source ∷ []) cs None items false e =
      let a = both-true (is_first_table source) (list_all is_condition cs && true) e in
      let b = both-true (list_all is_condition cs) true a.1 in
      let conditions = all-conditions cs b.0 in
      let inner = none-inner cs b.0 in
      let first = first-source source a.0 in
      let s = out-BoundSource source in
      (λ k. selected (bare_core (conditions k) (inner k) (map row_value_of items)) (first k ∷ []))
      ∙ one-selected (length s.kinds) (map condition_of (conditions_among cs)) (map row_value_of items) (tables (table_in (out-SourceRows s.rows)))

  core-is : (core : BoundCore) → is_scan_core core ≡ true → core_meaning tables core ≡ core_scanned core (tables (table_of_sources (out-BoundCore core).sources))
  core-is core is =
      let c = out-BoundCore core in
      fold_out-BoundCore (Found Row) Meant (Found Row) (Found Row) (Found Row) Source rows_step conjunct_step (source_rows_step tables) core_step select_step source_step core
      ∙ core-parts c.sources c.conjuncts c.grouping c.items c.distinct is

  rows-are : (x : BoundRows) (core : BoundCore) → core_in (out-BoundRows x) ≡ Some core → rows_meaning tables x ≡ core_meaning tables core
  rows-are x core is = fold_out-BoundRows (Found Row) Meant (Found Row) (Found Row) (Found Row) Source rows_step conjunct_step (source_rows_step tables) core_step select_step source_step x ∙ go (out-BoundRows x) is
    where
      go : (y : BoundRows-F BoundRows Conjunct SourceRows BoundCore BoundSelect BoundSource) → core_in y ≡ Some core
          → rows_step (map-BoundRows BoundRows Conjunct SourceRows BoundCore BoundSelect BoundSource (Found Row) Meant (Found Row) (Found Row) (Found Row) Source (rows_meaning tables) (conjunct_meaning tables) (source_rows_meaning tables) (core_meaning tables) (select_meaning tables) (source_meaning tables) y)
          ≡ core_meaning tables core
      go (BoundRows-F.Core other) e = let same : other ≡ core = cc in ap (core_meaning tables) same
      go (BoundRows-F.Set kind all left right kinds) e = cc

  -- what is shown, by the rows of the table
  pub scan-shown : (select : BoundSelect) (core : BoundCore) → core_of_select select ≡ Some core → is_scan_core core ≡ true
      → shown tables select ≡ shown_found (out-BoundSelect select).cut (out-BoundSelect select).columns (core_scanned core (tables (table_of_sources (out-BoundCore core).sources)))
  scan-shown select core is scan =
      let s = out-BoundSelect select in
      let found = rows_meaning tables s.rows in
      ap (λ (f : Found Row). shown_of s.cut s.columns (counted_rows (cut_of s.cut) found) f f.faults) (select-is tables select)
      ∙ ap (shown_found s.cut s.columns) (rows-are s.rows core is ∙ core-is core scan)

-- ---- faults go first

fault-first : (A : Type 0) (cut : Option Cut) (columns : List Column) (rows : List Row) (found : Found Row) (fs : List ValueFault) (value : ValueFault) → Contains fs value
    → IsShown {A = A} (shown_of cut columns rows found fs) (Err (fault.Value value))
fault-first A cut columns rows found [] value noted = absurd (let within = noted.1 in omega (arith, within))
fault-first A cut columns rows found (first ∷ fs) value noted = noted

cut-faults : (fs : List ValueFault) (rows : List Row) (value : ValueFault) → Contains fs value → Contains (unless_faulted fs (clean rows)).faults value
cut-faults [] rows value noted = noted
cut-faults (first ∷ fs) rows value noted = noted

pub fault-shown : (A : Type 0) (cut : Option Cut) (columns : List Column) (found : Found Row) (value : ValueFault) → Contains found.faults value → IsShown {A = A} (shown_found cut columns found) (Err (fault.Value value))
fault-shown A cut columns found value noted =
    let after = cut_found (cut_of cut) found in
    fault-first A cut columns (counted_rows (cut_of cut) found) after after.faults value (cut-faults found.faults (perhaps_cut (cut_of cut) found.rows) value noted)
