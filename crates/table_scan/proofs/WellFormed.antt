-- A well-formed SELECT over one table can be scanned.
use Rattle.std.proofs.Common.{◌≡◌, ℕ, true, true≢false, List, [], ◌∷◌, ◌++◌, refl, sym, ap, subst, ◌∙◌, append-nil}
use Rattle.std.specs.Prelude.{not, ◌&&◌, map, Option, Some, None}
use Rattle.std.specs.List.{AllByRecursion, list_all}
use Rattle.std.specs.Option.{option_map}
use Rattle.ooc_types.specs.declared.schema.SqlType.{SqlType}
use Rattle.sql_expr.specs.declared.tree.Expr.{Expr}
use Rattle.sql_expr.specs.Typing.{IsTyped}
use Rattle.bound_tree.specs.declared.select.Grouping.{Grouping}
use Rattle.bound_tree.specs.declared.select.BoundCore.{BoundCore}
use Rattle.bound_tree.specs.declared.select.BoundRows.{BoundRows}
use Rattle.bound_tree.specs.declared.select.BoundSelect.{BoundSelect}
use Rattle.bound_tree.specs.declared.select.BoundSource.{BoundSource}
use Rattle.bound_tree.specs.declared.select.Conjunct.{Conjunct}
use Rattle.bound_tree.specs.declared.select.SourceRows.{SourceRows}
use Rattle.bound_tree.specs.declared.select.BoundRows.TheOpen.{BoundCore-F, BoundRows-F, BoundSelect-F, Conjunct-F, SourceRows-F}
use Rattle.bound_tree.specs.declared.select.BoundRows.TheFolds.{every_here-BoundCore, every_here-BoundSource, every_held-BoundCore, every_held-BoundRows, every_held-BoundSelect, map-BoundRows}
use Rattle.bound_tree.specs.declared.select.BoundRows.TheViews.{out-BoundCore, out-BoundSelect, out-BoundSource, out-Conjunct, out-SourceRows}
use Rattle.well_formed.specs.Cores.{IsConjunct, IsConjunctIn, IsCoreNode}
use Rattle.well_formed.specs.Exprs.{IsExpr}
use Rattle.well_formed.specs.From.{HasKindsIn, IsSourceNode}
use Rattle.well_formed.specs.Given.{Schemas, kinds_below_items, kinds_of_columns}
use Rattle.well_formed.specs.Given.{kinds_of_sources as kinds_of_all}
use Rattle.well_formed.specs.Rows.{AnyConjunct, AnyInput, AreWellFormedRows, IsRowsNode, IsSelectNode, IsWellFormedConjunct, IsWellFormedCore, IsWellFormedInput, IsWellFormedSelect, IsWellFormedSource}
use Rattle.table_scan.specs.Scan.{condition_in_node, conditions_among, conditions_of_core, core_in, core_of_select, has_none, is_condition, is_first, is_one_table, is_scan, is_scan_core, is_scan_of, is_table_in, is_ungrouped, items_of_core, kinds_of_core, kinds_of_sources, scan_kinds, scan_table, table_in, table_of_core, table_of_sources}
use Rattle.table_scan.specs.Typed.{IsConditionOver, IsTypedCore, IsTypedScan}
use Rattle.table_scan.proofs.Scanning.{both-true}

module _ (limit : ℕ) where
  exprs-typed : (columns : List SqlType) (exprs : List Expr) → AllByRecursion (IsExpr limit columns) exprs → AllByRecursion (IsTyped columns) exprs
  exprs-typed columns [] all = tt
  exprs-typed columns (expr ∷ exprs) all = (all.0.typed, exprs-typed columns exprs all.1)

  one-typed : (columns : List SqlType) (y : Conjunct-F BoundRows Conjunct SourceRows BoundCore BoundSelect BoundSource) (others : List Expr) → IsConjunctIn limit columns y → AllByRecursion (IsConditionOver columns) others
      → AllByRecursion (IsConditionOver columns) (condition_in_node y ++ others)
  one-typed columns (Conjunct-F.Condition expr) others is rest = ((is.whole.typed, is.boolean), rest)
  one-typed columns (Conjunct-F.Member of query negated) others is rest = rest

  conditions-typed : (columns : List SqlType) (cs : List Conjunct) → AllByRecursion (IsConjunct limit columns) cs → AllByRecursion (IsConditionOver columns) (conditions_among cs)
  conditions-typed columns [] all = tt
  conditions-typed columns (c ∷ cs) all = one-typed columns (out-Conjunct c) (conditions_among cs) all.0 (conditions-typed columns cs all.1)

  one-kinds : (sources : List BoundSource) → is_one_table sources ≡ true → kinds_of_all sources ≡ kinds_of_sources sources
  one-kinds [] e = refl
  one-kinds (source ∷ []) e = append-nil (kinds_of_sources (source ∷ []))
  one-kinds (source ∷ second ∷ more) e = absurd (true≢false (sym e))

  below-items : (sources : List BoundSource) (grouping : Option Grouping) → is_ungrouped grouping ≡ true → kinds_below_items sources grouping ≡ kinds_of_all sources
  below-items sources None e = refl
  below-items sources (Some grouping) e = absurd (true≢false (sym e))

  core-typed : (core : BoundCore) → is_scan_core core ≡ true → IsCoreNode limit (out-BoundCore core) → IsTypedCore core
  core-typed core scan node =
      let c = out-BoundCore core in
      let a = both-true (is_one_table c.sources) (list_all is_condition c.conjuncts && (is_ungrouped c.grouping && not c.distinct)) scan in
      let b = both-true (list_all is_condition c.conjuncts) (is_ungrouped c.grouping && not c.distinct) a.1 in
      let d = both-true (is_ungrouped c.grouping) (not c.distinct) b.1 in
      let kinds = one-kinds c.sources a.0 in
      record {
        conditions = subst (λ (ks : List SqlType). AllByRecursion (IsConditionOver ks) (conditions_among c.conjuncts)) kinds (conditions-typed (kinds_of_all c.sources) c.conjuncts node.conjuncts);
        items = subst (λ (ks : List SqlType). AllByRecursion (IsTyped ks) c.items) (below-items c.sources c.grouping d.0 ∙ kinds) (exprs-typed (kinds_below_items c.sources c.grouping) c.items node.items);
      }

  module _ (schemas : Schemas) where
    abbrev R : Type 0
    R = (x : BoundRows) × AreWellFormedRows limit schemas x

    abbrev C : Type 0
    C = (x : Conjunct) × IsWellFormedConjunct limit schemas x

    abbrev I : Type 0
    I = (x : SourceRows) × IsWellFormedInput limit schemas x

    abbrev K : Type 0
    K = (x : BoundCore) × IsWellFormedCore limit schemas x

    abbrev S : Type 0
    S = (x : BoundSelect) × IsWellFormedSelect limit schemas x

    abbrev O : Type 0
    O = (x : BoundSource) × IsWellFormedSource limit schemas x

    core-case : (y : BoundRows-F R C I K S O) (core : BoundCore)
        → core_in (map-BoundRows R C I K S O BoundRows Conjunct SourceRows BoundCore BoundSelect BoundSource (λ e. e.0) (λ e. e.0) (λ e. e.0) (λ e. e.0) (λ e. e.0) (λ e. e.0) y) ≡ Some core
        → IsWellFormedCore limit schemas core
    core-case (BoundRows-F.Core k) core e = let same : k.0 ≡ core = cc in subst (IsWellFormedCore limit schemas) same k.1
    core-case (BoundRows-F.Set kind all left right kinds) core e = cc

    select-core : (select : BoundSelect) (core : BoundCore) → core_of_select select ≡ Some core → IsWellFormedSelect limit schemas select → IsWellFormedCore limit schemas core
    select-core select core is whole =
        let held = every_held-BoundSelect IsRowsNode AnyConjunct AnyInput (IsCoreNode limit) IsSelectNode (IsSourceNode schemas) select whole in
        let rows = subst (AreWellFormedRows limit schemas) (ap (λ (s : BoundSelect-F BoundRows Conjunct SourceRows BoundCore BoundSelect BoundSource). s.rows) held.1) held.0.rows.1 in
        let below = every_held-BoundRows IsRowsNode AnyConjunct AnyInput (IsCoreNode limit) IsSelectNode (IsSourceNode schemas) (out-BoundSelect select).rows rows in
        core-case below.0 core (ap core_in below.1 ∙ is)

    core-fits : (core : BoundCore) → is_scan_core core ≡ true → IsWellFormedCore limit schemas core → IsTypedCore core
    core-fits core scan whole = core-typed core scan (every_here-BoundCore IsRowsNode AnyConjunct AnyInput (IsCoreNode limit) IsSelectNode (IsSourceNode schemas) core whole)

    found : (select : BoundSelect) (o : Option BoundCore) → core_of_select select ≡ o → is_scan_of o ≡ true → IsWellFormedSelect limit schemas select → IsTypedScan select
    found select None is scan whole = absurd (true≢false (sym scan))
    found select (Some core) is scan whole =
        let typed = core-fits core scan (select-core select core is whole) in
        record {
          conditions = subst (λ (o : Option BoundCore). AllByRecursion (IsConditionOver (kinds_of_core o)) (conditions_of_core o)) (sym is) typed.conditions;
          items = subst (λ (o : Option BoundCore). AllByRecursion (IsTyped (kinds_of_core o)) (items_of_core o)) (sym is) typed.items;
        }

    pub scans-typed : (select : BoundSelect) → is_scan select ≡ true → IsWellFormedSelect limit schemas select → IsTypedScan select
    scans-typed select scan whole = found select (core_of_select select) refl scan whole

    -- ---- its table

    -- the table is there, and has columns of these types
    abbrev IsOfTable : List ℕ → List SqlType → Type 0
    IsOfTable name kinds = option_map kinds_of_columns (schemas name) ≡ Some kinds

    rows-kinds : (kinds : List SqlType) (y : SourceRows-F BoundRows Conjunct SourceRows BoundCore BoundSelect BoundSource) → is_table_in y ≡ true → HasKindsIn schemas kinds y → IsOfTable (table_in y) kinds
    rows-kinds kinds (SourceRows-F.Table name) e has = has
    rows-kinds kinds (SourceRows-F.Query select) e has = absurd (true≢false (sym e))

    sources-kinds : (os : List O) → is_one_table (map (λ (o : O). o.0) os) ≡ true → IsOfTable (table_of_sources (map (λ (o : O). o.0) os)) (kinds_of_sources (map (λ (o : O). o.0) os))
    sources-kinds [] e = absurd (true≢false (sym e))
    sources-kinds (o ∷ []) e =
        let s = out-BoundSource o.0 in
        let table = both-true (is_table_in (out-SourceRows s.rows)) (is_first s.join && has_none s.on) e in
        rows-kinds s.kinds (out-SourceRows s.rows) table.0 (every_here-BoundSource IsRowsNode AnyConjunct AnyInput (IsCoreNode limit) IsSelectNode (IsSourceNode schemas) o.0 o.1)
    sources-kinds (o ∷ second ∷ more) e = absurd (true≢false (sym e))

    core-kinds : (core : BoundCore) → is_scan_core core ≡ true → IsWellFormedCore limit schemas core → IsOfTable (table_of_sources (out-BoundCore core).sources) (kinds_of_sources (out-BoundCore core).sources)
    core-kinds core scan whole =
        let c = out-BoundCore core in
        let held = every_held-BoundCore IsRowsNode AnyConjunct AnyInput (IsCoreNode limit) IsSelectNode (IsSourceNode schemas) core whole in
        let same = ap (λ (k : BoundCore-F BoundRows Conjunct SourceRows BoundCore BoundSelect BoundSource). k.sources) held.1 in
        let one = both-true (is_one_table c.sources) (list_all is_condition c.conjuncts && (is_ungrouped c.grouping && not c.distinct)) scan in
        subst (λ (ss : List BoundSource). IsOfTable (table_of_sources ss) (kinds_of_sources ss)) same (sources-kinds held.0.sources (ap is_one_table same ∙ one.0))

    found-kinds : (select : BoundSelect) (o : Option BoundCore) → core_of_select select ≡ o → is_scan_of o ≡ true → IsWellFormedSelect limit schemas select → IsOfTable (table_of_core o) (kinds_of_core o)
    found-kinds select None is scan whole = absurd (true≢false (sym scan))
    found-kinds select (Some core) is scan whole = core-kinds core scan (select-core select core is whole)

    pub scans-kinds : (select : BoundSelect) → is_scan select ≡ true → IsWellFormedSelect limit schemas select → option_map kinds_of_columns (schemas (scan_table select)) ≡ Some (scan_kinds select)
    scans-kinds select scan whole = found-kinds select (core_of_select select) refl scan whole
