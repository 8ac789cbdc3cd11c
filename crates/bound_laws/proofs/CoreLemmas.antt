-- The rows of a core have the types of its items.
use Rattle.std.proofs.Common.{◌≡◌, ℕ, Bool, true, false, cond, ◌&&◌, List, [], ◌∷◌, ◌++◌, map, length, refl, sym, ap, ◌∙◌, subst, Option, Some, None, Ok, Err}
use Rattle.std.specs.Option.{option_map}
use Rattle.std.specs.Prelude.{IfSome}
use Rattle.std.specs.List.{AllByRecursion}
use Rattle.ooc_bags.specs.Rows.{row_eq}
use Rattle.ooc_types.specs.declared.schema.SqlType.{SqlType}
use Rattle.sql_expr.specs.declared.fault.ValueFault.{ValueFault}
use Rattle.sql_expr.specs.declared.tree.Expr.{Expr}
use Rattle.sql_expr.specs.Kinds.{kind_of}
use Rattle.bound_tree.specs.declared.select.BoundCore.{BoundCore}
use Rattle.bound_tree.specs.declared.select.BoundRows.{BoundRows}
use Rattle.bound_tree.specs.declared.select.BoundSelect.{BoundSelect}
use Rattle.bound_tree.specs.declared.select.BoundSource.{BoundSource}
use Rattle.bound_tree.specs.declared.select.Conjunct.{Conjunct}
use Rattle.bound_tree.specs.declared.select.Grouping.{Grouping as BoundGrouping}
use Rattle.bound_tree.specs.declared.select.SourceRows.{SourceRows}
use Rattle.bound_tree.specs.declared.select.BoundRows.TheOpen.{BoundCore-F}
use Rattle.bound_tree.specs.declared.select.BoundRows.TheViews.{out-BoundSource, roll-out-BoundSource}
use Rattle.sql_meaning.specs.Found.{Found, Row, and_then, clean, if_clean, unless_faulted}
use Rattle.sql_meaning.specs.From.{Source, from_behind, from_rows, is_empty, joined, met, nulls, pairs}
use Rattle.sql_meaning.specs.Groups.{values}
use Rattle.sql_meaning.specs.Judged.{Condition, Verdict, judged, kept, plain_first, verdict_found}
use Rattle.sql_meaning.specs.Select.{above_groups, below_having, inner_faults, item_found, perhaps_distinct, perhaps_grouped, projected, selected}
use Rattle.sql_meaning.specs.Statements.{Meant, Tables, core_of, grouping_of, row_value_of, source_meaning}
use Rattle.sql_meaning.proofs.TablesLemmas.{source-out}
use Rattle.well_formed.specs.Aggregates.{IsGrouping}
use Rattle.well_formed.specs.Cores.{IsCoreNode}
use Rattle.well_formed.specs.Exprs.{IsExpr}
use Rattle.well_formed.specs.Given.{kinds_below_items, kinds_of_source, kinds_of_sources}
use Rattle.bound_laws.specs.Meeting.{IsRow, IsValue}
use Rattle.bound_laws.proofs.GroupLemmas.{append-empty, grouped-fit}
use Rattle.bound_laws.proofs.Lists.{all-firsts, all-given, all-over}
use Rattle.bound_laws.proofs.ValueRows.{items-row, meet-append, nulls-meet}

-- ---- stages that keep what holds of every row

module _ (P : Row → Type 0) where
  verdict-keeps : (row : Row) (verdict : Verdict) → P row → AllByRecursion P (verdict_found row verdict).rows
  verdict-keeps row (Err fault) h = tt
  verdict-keeps row (Ok true) h = (h, tt)
  verdict-keeps row (Ok false) h = tt

  kept-has : (conjuncts : List Condition) (rows : List Row) → AllByRecursion P rows → AllByRecursion P (kept conjuncts rows).rows
  kept-has conjuncts rows all =
      all-given P P (λ row. (verdict_found row (judged (plain_first conjuncts) row)).rows) (λ row h. verdict-keeps row (judged (plain_first conjuncts) row) h) rows all

  -- rows that are there only where nothing faulted
  unless-has : (faults : List ValueFault) (found : Found Row) → (faults ≡ [] → AllByRecursion P found.rows) → AllByRecursion P (unless_faulted faults found).rows
  unless-has [] found all = all refl
  unless-has (fault ∷ faults) found all = tt

  distinct-has : (distinct : Bool) (rows : List Row) → AllByRecursion P rows → AllByRecursion P (perhaps_distinct distinct rows)
  distinct-has false rows all = all
  distinct-has true rows all = all-firsts P row_eq rows all

-- ---- joins

append-none : (kinds : List SqlType) → kinds ++ [] ≡ kinds
append-none [] = refl
append-none (kind ∷ kinds) = ap (λ rest. kind ∷ rest) (append-none kinds)

append-three : (xs ys zs : List SqlType) → (xs ++ ys) ++ zs ≡ xs ++ (ys ++ zs)
append-three [] ys zs = refl
append-three (x ∷ xs) ys zs = ap (λ rest. x ∷ rest) (append-three xs ys zs)

module _ (limit : ℕ) where
  abbrev Rows : List SqlType → List Row → Type 0
  Rows kinds rows = AllByRecursion (IsRow limit kinds) rows

  module _ (columns kinds : List SqlType) where
    pairs-fit : (left : Row) (rows : List Row) → IsRow limit columns left → Rows kinds rows → Rows (columns ++ kinds) (pairs left rows)
    pairs-fit left rows meets all = all-over (IsRow limit kinds) (IsRow limit (columns ++ kinds)) (λ right. left ++ right) (λ right h. meet-append (IsValue limit) columns kinds left right meets h) rows all

    either-fit : (b : Bool) (left : Row) (width : ℕ) (found : Found Row) → width ≡ length kinds → IsRow limit columns left → Rows (columns ++ kinds) found.rows
        → Rows (columns ++ kinds) (cond b (clean ((left ++ nulls width) ∷ [])) found).rows
    either-fit true left width found is meets all =
        (meet-append (IsValue limit) columns kinds left (nulls width) meets (subst (λ (n : ℕ). IsRow limit kinds (nulls n)) (sym is) (nulls-meet limit kinds)), tt)
    either-fit false left width found is meets all = all

    met-fit : (source : Source) (left : Row) → source.width ≡ length kinds → Rows kinds source.found.rows → IsRow limit columns left → Rows (columns ++ kinds) (met source left).rows
    met-fit source left is all meets =
        let found = kept source.on (pairs left source.found.rows) in
        either-fit (source.pads && (is_empty found.rows && is_empty found.faults)) left source.width found is meets
        (kept-has (IsRow limit (columns ++ kinds)) source.on (pairs left source.found.rows) (pairs-fit left source.found.rows meets all))

    joined-fit : (source : Source) (rows : List Row) → source.width ≡ length kinds → Rows kinds source.found.rows → Rows columns rows → Rows (columns ++ kinds) (joined source rows).rows
    joined-fit source rows is all lefts = all-given (IsRow limit columns) (IsRow limit (columns ++ kinds)) (λ left. (met source left).rows) (λ left meets. met-fit source left is all meets) rows lefts

  module _ (tables : Tables) where
    -- a source whose rows have its types
    abbrev pub SourceFits : BoundSource → Type 0
    SourceFits source = Rows (kinds_of_source source) (source_meaning tables source).found.rows

    pub width-is : (source : BoundSource) → (source_meaning tables source).width ≡ length (kinds_of_source source)
    width-is source = ap (λ (s : Source). s.width) (ap (source_meaning tables) (sym (roll-out-BoundSource source)) ∙ source-out tables (out-BoundSource source))

    behind-fit : (columns : List SqlType) (sources : List BoundSource) (rows : List Row) → AllByRecursion SourceFits sources → Rows columns rows
        → Rows (columns ++ kinds_of_sources sources) (from_behind (map (source_meaning tables) sources) rows).rows
    behind-fit columns [] rows fit all = subst (λ (ks : List SqlType). Rows ks rows) (sym (append-none columns)) all
    behind-fit columns (source ∷ sources) rows fit all =
        let kinds = kinds_of_source source in
        let next = (joined (source_meaning tables source) rows).rows in
        subst (λ (ks : List SqlType). Rows ks (from_behind (map (source_meaning tables) sources) next).rows) (append-three columns kinds (kinds_of_sources sources))
        (behind-fit (columns ++ kinds) sources next fit.1 (joined-fit columns kinds (source_meaning tables source) rows (width-is source) fit.0 all))

    pub from-fit : (sources : List BoundSource) → AllByRecursion SourceFits sources → Rows (kinds_of_sources sources) (from_rows (map (source_meaning tables) sources)).rows
    from-fit sources fit = behind-fit [] sources ([] ∷ []) fit (tt, tt)

    -- ---- grouping, HAVING and items

    pub below-fit : (sources : List BoundSource) (grouping : Option BoundGrouping) (rows : List Row) → Rows (kinds_of_sources sources) rows → IfSome grouping (IsGrouping limit (kinds_of_sources sources))
        → (perhaps_grouped (option_map grouping_of grouping) rows).faults ≡ [] → Rows (kinds_below_items sources grouping) (perhaps_grouped (option_map grouping_of grouping) rows).rows
    below-fit sources None rows all is none = all
    below-fit sources (Some grouping) rows all is none = grouped-fit limit (kinds_of_sources sources) grouping rows is all none

    above-fit : (kinds : List SqlType) (items : List Expr) (having : List Condition) (rows : List Row) → AllByRecursion (IsExpr limit kinds) items → Rows kinds rows
        → Rows (map kind_of items) (if_clean (kept having rows) (projected (map row_value_of items))).rows
    above-fit kinds items having rows are all =
        unless-has (IsRow limit (map kind_of items)) (kept having rows).faults (projected (map row_value_of items) (kept having rows).rows)
        (λ none. all-given (IsRow limit kinds) (IsRow limit (map kind_of items)) (λ row. (item_found (values (map row_value_of items) row)).rows)
        (λ row meets. items-row limit kinds items row are meets) (kept having rows).rows (kept-has (IsRow limit kinds) having rows all))

    pub core-fits : (x : BoundCore-F BoundRows Conjunct SourceRows BoundCore BoundSelect BoundSource) (meant : List Meant) → IsCoreNode limit x → AllByRecursion SourceFits x.sources
        → Rows (map kind_of x.items) (selected (core_of meant x.grouping x.items x.distinct) (map (source_meaning tables) x.sources)).rows
    core-fits x meant node fit =
        let core = core_of meant x.grouping x.items x.distinct in
        let sources = map (source_meaning tables) x.sources in
        let filtered = and_then (from_rows sources) (kept core.conjuncts) in
        let below = below_having core sources in
        let above = if_clean below (above_groups core) in
        let items = IsRow limit (map kind_of x.items) in
        unless-has items (inner_faults core sources) (if_clean above (λ rows. clean (perhaps_distinct core.distinct rows)))
        (λ none. unless-has items above.faults (clean (perhaps_distinct core.distinct above.rows))
        (λ none. distinct-has items core.distinct above.rows
        (unless-has items below.faults (above_groups core below.rows)
        (λ none. above-fit (kinds_below_items x.sources x.grouping) x.items core.having below.rows node.items
        (below-fit x.sources x.grouping filtered.rows
        (kept-has (IsRow limit (kinds_of_sources x.sources)) core.conjuncts (from_rows sources).rows (from-fit x.sources fit))
        node.grouping (append-empty filtered.faults (perhaps_grouped core.grouping filtered.rows).faults none).1)))))
