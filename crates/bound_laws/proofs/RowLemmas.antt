-- The rows of a well-formed SELECT have the types of its columns.
use Rattle.std.proofs.Common.{◌≡◌, ℕ, suc, List, [], ◌∷◌, ◌++◌, map, length, drop, refl, sym, ap, subst, Option, Some, None}
use Rattle.std.specs.Option.{option_map}
use Rattle.std.specs.Prelude.{⊤, count_by}
use Rattle.std.specs.List.{AllByRecursion}
use Rattle.ooc_bags.specs.Firsts.{firsts}
use Rattle.ooc_bags.specs.Rows.{row_eq}
use Rattle.ooc_types.specs.declared.value.Value.{Value}
use Rattle.ooc_types.specs.declared.schema.Column.{Column}
use Rattle.ooc_types.specs.declared.schema.SqlType.{SqlType}
use Rattle.ooc_types.specs.Meets.{AllMeet, HasForm, IsOf, Meets}
use Rattle.sql_expr.specs.Values.{IsRanged}
use Rattle.sql_expr.specs.Kinds.{kind_of}
use Rattle.bound_tree.specs.declared.select.BoundCore.{BoundCore}
use Rattle.bound_tree.specs.declared.select.BoundRows.{BoundRows}
use Rattle.bound_tree.specs.declared.select.BoundSelect.{BoundSelect}
use Rattle.bound_tree.specs.declared.select.BoundSource.{BoundSource}
use Rattle.bound_tree.specs.declared.select.Conjunct.{Conjunct}
use Rattle.bound_tree.specs.declared.select.SourceRows.{SourceRows}
use Rattle.bound_tree.specs.declared.select.BoundRows.TheOpen.{BoundCore-F, BoundRows-F, BoundSelect-F, BoundSource-F, SourceRows-F}
use Rattle.bound_tree.specs.declared.select.BoundRows.TheViews.{roll-BoundRows, roll-SourceRows, roll-BoundCore, roll-BoundSelect, roll-BoundSource, out-roll-BoundRows, out-roll-SourceRows, out-roll-BoundCore, out-roll-BoundSelect, out-roll-BoundSource}
use Rattle.sql_meaning.specs.Found.{Found, Row, clean}
use Rattle.sql_meaning.specs.From.{Source}
use Rattle.sql_meaning.specs.Ordered.{limited, row_cmp, sorted}
use Rattle.sql_meaning.specs.Select.{Cut, cut_found, perhaps_cut}
use Rattle.sql_meaning.specs.Sets.{Times, combined}
use Rattle.sql_meaning.specs.Statements.{Tables, conjunct_meaning, cut_of, set_found, times_of, rows_meaning, source_rows_meaning, core_meaning, select_meaning, source_meaning}
use Rattle.sql_meaning.proofs.TablesLemmas.{core-out, rows-out, select-out, source-out, source_rows-out}
use Rattle.plan_tree.proofs.JoinLemmas.{all-on}
use Rattle.well_formed.specs.Cores.{IsCoreNode}
use Rattle.well_formed.specs.From.{HasKinds, HasKindsIn, IsSourceNode}
use Rattle.well_formed.specs.Given.{Schemas, kinds_in_rows, kinds_of_columns, kinds_of_core, kinds_of_rows, kinds_of_select, kinds_of_source}
use Rattle.well_formed.specs.Rows.{AnyConjunct, AnyInput, IsRowsNode, IsSelectNode, IsWellFormedSelect, IsWellFormedSource}
use Rattle.well_formed.proofs.Parts.{InRows, InInput, InCore, InWhole, InFrom, from_brings, whole_brings}
use Rattle.bound_laws.specs.Meeting.{IsRow, IsValue, MeetSchemas}
use Rattle.bound_laws.proofs.CoreLemmas.{SourceFits, core-fits}
use Rattle.bound_laws.proofs.Lists.{all-append, all-drop, all-firsts, all-sorted, all-take, all-times, all-unless}
use Rattle.bound_laws.proofs.ValueRows.{left-row, meet-on, right-row, table-row}

-- ---- set operations and the order keep what holds of every row

module _ (P : Row → Type 0) where
  pub all-limited : (limit : Option ℕ) (rows : List Row) → AllByRecursion P rows → AllByRecursion P (limited limit rows)
  all-limited None rows all = all
  all-limited (Some n) rows all = all-take P n rows all

  pub all-cut : (cut : Option Cut) (found : Found Row) → AllByRecursion P found.rows → AllByRecursion P (cut_found cut found).rows
  all-cut cut found all = all-unless P found.faults (clean (perhaps_cut cut found.rows)) (by cut)
    where
      by : (cut : Option Cut) → AllByRecursion P (perhaps_cut cut found.rows)
      by None = all
      by (Some one) = all-limited one.limit (drop one.offset (sorted (row_cmp one.keys) found.rows)) (all-drop P one.offset (sorted (row_cmp one.keys) found.rows) (all-sorted P (row_cmp one.keys) found.rows all))

  pub all-set : (times : Times) (left right : Found Row) → AllByRecursion P left.rows → AllByRecursion P right.rows → AllByRecursion P (set_found times left right).rows
  all-set times left right a b =
      all-unless P (left.faults ++ right.faults) (clean (combined times left.rows right.rows))
      (all-times P (λ row. times (count_by (row_eq row) left.rows) (count_by (row_eq row) right.rows)) (firsts (left.rows ++ right.rows))
      (all-firsts P row_eq (left.rows ++ right.rows) (all-append P left.rows right.rows a b)))

-- ---- the whole

module _ (limit : ℕ) (schemas : Schemas) (tables : Tables) (meet : MeetSchemas limit schemas tables) where
  abbrev Fit : List SqlType → List Row → Type 0
  Fit kinds rows = AllByRecursion (IsRow limit kinds) rows

  abbrev RowsFit : BoundRows → Type 0
  RowsFit rows = Fit (kinds_of_rows rows) (rows_meaning tables rows).rows

  abbrev AnyPart : Conjunct → Type 0
  AnyPart conjunct = ⊤

  abbrev InputFits : SourceRows → Type 0
  InputFits rows = (kinds : List SqlType) → HasKinds schemas kinds rows → Fit kinds (source_rows_meaning tables rows).rows

  abbrev CoreFits : BoundCore → Type 0
  CoreFits core = Fit (kinds_of_core core) (core_meaning tables core).rows

  abbrev WholeFits : BoundSelect → Type 0
  WholeFits select = Fit (kinds_of_select select) (select_meaning tables select).rows

  abbrev FromFits : BoundSource → Type 0
  FromFits = SourceFits limit tables

  abbrev CoreNode : Type 0
  CoreNode = BoundCore-F BoundRows Conjunct SourceRows BoundCore BoundSelect BoundSource

  abbrev RowsNode : Type 0
  RowsNode = BoundRows-F BoundRows Conjunct SourceRows BoundCore BoundSelect BoundSource

  abbrev InputNode : Type 0
  InputNode = SourceRows-F BoundRows Conjunct SourceRows BoundCore BoundSelect BoundSource

  abbrev WholeNode : Type 0
  WholeNode = BoundSelect-F BoundRows Conjunct SourceRows BoundCore BoundSelect BoundSource

  abbrev FromNode : Type 0
  FromNode = BoundSource-F BoundRows Conjunct SourceRows BoundCore BoundSelect BoundSource

  -- the same rows, over the same types
  carried : (ks ls : List SqlType) (f g : Found Row) → ks ≡ ls → f ≡ g → Fit ls g.rows → Fit ks f.rows
  carried ks ls f g kinds rows fit = subst (λ (k : List SqlType). Fit k f.rows) (sym kinds) (subst (λ (h : Found Row). Fit ls h.rows) (sym rows) fit)

  by_core : (x : CoreNode) → IsCoreNode limit x → InCore RowsFit AnyPart InputFits CoreFits WholeFits FromFits x → CoreFits (roll-BoundCore x)
  by_core x node held =
      let kinds : kinds_of_core (roll-BoundCore x) ≡ map kind_of x.items = ap (λ (core : CoreNode). map kind_of core.items) (out-roll-BoundCore x) in
      subst (λ (ks : List SqlType). Fit ks (core_meaning tables (roll-BoundCore x)).rows) (sym kinds)
      (subst (λ (f : Found Row). Fit (map kind_of x.items) f.rows) (sym (core-out tables x))
      (core-fits limit tables x (map (conjunct_meaning tables) x.conjuncts) node held.0))

  by_rows : (x : RowsNode) → IsRowsNode x → InRows RowsFit AnyPart InputFits CoreFits WholeFits FromFits x → RowsFit (roll-BoundRows x)
  by_rows (BoundRows-F.Core core) node held =
      carried (kinds_of_rows (roll-BoundRows (BoundRows-F.Core core))) (kinds_of_core core) (rows_meaning tables (roll-BoundRows (BoundRows-F.Core core))) (core_meaning tables core)
      (ap kinds_in_rows (out-roll-BoundRows (BoundRows-F.Core core))) (rows-out tables (BoundRows-F.Core core)) held
  by_rows (BoundRows-F.Set kind all left right kinds) node held =
      carried (kinds_of_rows (roll-BoundRows (BoundRows-F.Set kind all left right kinds))) kinds (rows_meaning tables (roll-BoundRows (BoundRows-F.Set kind all left right kinds)))
      (set_found (times_of kind all) (rows_meaning tables left) (rows_meaning tables right))
      (ap kinds_in_rows (out-roll-BoundRows (BoundRows-F.Set kind all left right kinds))) (rows-out tables (BoundRows-F.Set kind all left right kinds))
      (all-set (IsRow limit kinds) (times_of kind all) (rows_meaning tables left) (rows_meaning tables right)
      (all-on (IsRow limit (kinds_of_rows left)) (IsRow limit kinds) (λ row h. left-row limit (kinds_of_rows left) (kinds_of_rows right) kinds row node h) (rows_meaning tables left).rows held.0)
      (all-on (IsRow limit (kinds_of_rows right)) (IsRow limit kinds) (λ row h. right-row limit (kinds_of_rows left) (kinds_of_rows right) kinds row node h) (rows_meaning tables right).rows held.1))

  table-fits : (name : List ℕ) (kinds : List SqlType) (schema : Option (List Column)) → schemas name ≡ schema → option_map kinds_of_columns schema ≡ Some kinds → Fit kinds (tables name)
  table-fits name kinds None is has = cc
  table-fits name kinds (Some columns) is has =
      let same : kinds_of_columns columns ≡ kinds = cc in
      subst (λ (ks : List SqlType). Fit ks (tables name)) same
      (all-on (IsOf limit columns) (IsRow limit (kinds_of_columns columns)) (λ row of. table-row limit columns row of) (tables name) (meet name columns is))

  input_node : (x : InputNode) → InInput RowsFit AnyPart InputFits CoreFits WholeFits FromFits x → (kinds : List SqlType) → HasKindsIn schemas kinds x → Fit kinds (source_rows_meaning tables (roll-SourceRows x)).rows
  input_node (SourceRows-F.Table name) held kinds has =
      subst (λ (f : Found Row). Fit kinds f.rows) (sym (source_rows-out tables (SourceRows-F.Table name))) (table-fits name kinds (schemas name) refl has)
  input_node (SourceRows-F.Query select) held kinds has =
      subst (λ (f : Found Row). Fit kinds f.rows) (sym (source_rows-out tables (SourceRows-F.Query select)))
      (subst (λ (ks : List SqlType). Fit ks (select_meaning tables select).rows) has held)

  by_input : (x : InputNode) → InInput RowsFit AnyPart InputFits CoreFits WholeFits FromFits x → InputFits (roll-SourceRows x)
  by_input x held kinds has = input_node x held kinds (subst (HasKindsIn schemas kinds) (out-roll-SourceRows x) has)

  by_whole : (x : WholeNode) → IsSelectNode x → InWhole RowsFit AnyPart InputFits CoreFits WholeFits FromFits x → WholeFits (roll-BoundSelect x)
  by_whole x node held =
      let kinds : kinds_of_select (roll-BoundSelect x) ≡ kinds_of_columns x.columns = ap (λ (s : WholeNode). kinds_of_columns s.columns) (out-roll-BoundSelect x) in
      subst (λ (ks : List SqlType). Fit ks (select_meaning tables (roll-BoundSelect x)).rows) (sym kinds)
      (subst (λ (f : Found Row). Fit (kinds_of_columns x.columns) f.rows) (sym (select-out tables x))
      (all-cut (IsRow limit (kinds_of_columns x.columns)) (cut_of x.cut) (rows_meaning tables x.rows)
      (subst (λ (ks : List SqlType). Fit ks (rows_meaning tables x.rows).rows) (sym node.columns) held)))

  by_from : (x : FromNode) → IsSourceNode schemas x → InFrom RowsFit AnyPart InputFits CoreFits WholeFits FromFits x → FromFits (roll-BoundSource x)
  by_from x node held =
      let kinds : kinds_of_source (roll-BoundSource x) ≡ x.kinds = ap (λ (s : FromNode). s.kinds) (out-roll-BoundSource x) in
      subst (λ (ks : List SqlType). Fit ks (source_meaning tables (roll-BoundSource x)).found.rows) (sym kinds)
      (subst (λ (s : Source). Fit x.kinds s.found.rows) (sym (source-out tables x)) (held x.kinds node))

  -- each row of a source is of its columns
  pub source-rows : (source : BoundSource) → IsWellFormedSource limit schemas source → FromFits source
  source-rows = from_brings IsRowsNode AnyConjunct AnyInput (IsCoreNode limit) IsSelectNode (IsSourceNode schemas) RowsFit AnyPart InputFits CoreFits WholeFits FromFits
      (λ x node well held. by_rows x node held) (λ x node well held. tt) (λ x node well held. by_input x held) (λ x node well held. by_core x node held) (λ x node well held. by_whole x node held) (λ x node well held. by_from x node held)

  select-rows : (select : BoundSelect) → IsWellFormedSelect limit schemas select → WholeFits select
  select-rows = whole_brings IsRowsNode AnyConjunct AnyInput (IsCoreNode limit) IsSelectNode (IsSourceNode schemas) RowsFit AnyPart InputFits CoreFits WholeFits FromFits
      (λ x node well held. by_rows x node held) (λ x node well held. tt) (λ x node well held. by_input x held) (λ x node well held. by_core x node held) (λ x node well held. by_whole x node held) (λ x node well held. by_from x node held)

meets-length : {A : Type 0} (Fact : A → Value → Type 0) (items : List A) (row : Row) → AllMeet Fact items row → length row ≡ length items
meets-length Fact [] [] meets = refl
meets-length Fact [] (value ∷ row) meets = absurd meets
meets-length Fact (item ∷ items) [] meets = absurd meets
meets-length Fact (item ∷ items) (value ∷ row) meets = ap suc (meets-length Fact items row meets.1)

-- each row of a source has as many values as that has columns
pub source-wide : (limit : ℕ) (schemas : Schemas) (tables : Tables) → MeetSchemas limit schemas tables → (source : BoundSource) → IsWellFormedSource limit schemas source
    → AllByRecursion (λ row. length row ≡ length (kinds_of_source source)) (source_meaning tables source).found.rows
source-wide limit schemas tables meet source well =
    all-on (IsRow limit (kinds_of_source source)) (λ row. length row ≡ length (kinds_of_source source)) (λ row meets. meets-length (IsValue limit) (kinds_of_source source) row meets)
    (source_meaning tables source).found.rows (source-rows limit schemas tables meet source well)

pub rows-meet : (limit : ℕ) (schemas : Schemas) (tables : Tables) (select : BoundSelect) → IsWellFormedSelect limit schemas select → MeetSchemas limit schemas tables
    → AllByRecursion (Meets limit (kinds_of_select select)) (select_meaning tables select).rows
rows-meet limit schemas tables select well meet =
    all-on (IsRow limit (kinds_of_select select)) (Meets limit (kinds_of_select select)) (λ row meets. meet-on (IsValue limit) (HasForm limit) (λ k v h. h.form) (kinds_of_select select) row meets)
    (select_meaning tables select).rows (select-rows limit schemas tables meet select well)

pub rows-ranged : (limit : ℕ) (schemas : Schemas) (tables : Tables) (select : BoundSelect) → IsWellFormedSelect limit schemas select → MeetSchemas limit schemas tables
    → AllByRecursion (AllMeet IsRanged (kinds_of_select select)) (select_meaning tables select).rows
rows-ranged limit schemas tables select well meet =
    all-on (IsRow limit (kinds_of_select select)) (AllMeet IsRanged (kinds_of_select select)) (λ row meets. meet-on (IsValue limit) IsRanged (λ k v h. h.range) (kinds_of_select select) row meets)
    (select_meaning tables select).rows (select-rows limit schemas tables meet select well)
