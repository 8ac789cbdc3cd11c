-- The parts of a statement that can be answered, and what they mean.
use Rattle.std.proofs.Common.{◌≡◌, take, ◌++◌, ◌∷◌, ◌+◌, ℕ, ◌<◌, Bool, List, [], length, get_or, map, refl, sym, ap, ◌∙◌}
use Rattle.ooc_types.specs.declared.schema.SqlType.{SqlType}
use Rattle.bound_tree.specs.declared.kinds.SetKind.{SetKind}
use Rattle.bound_tree.specs.declared.select.BoundCore.{BoundCore}
use Rattle.bound_tree.specs.declared.select.BoundRows.{BoundRows}
use Rattle.bound_tree.specs.declared.select.BoundSelect.{BoundSelect}
use Rattle.bound_tree.specs.declared.select.BoundSource.{BoundSource}
use Rattle.bound_tree.specs.declared.select.Conjunct.{Conjunct}
use Rattle.bound_tree.specs.declared.select.SourceRows.{SourceRows}
use Rattle.bound_tree.specs.declared.select.BoundRows.TheOpen.{BoundRows-F, Conjunct-F, SourceRows-F}
use Rattle.bound_tree.specs.declared.select.BoundRows.TheViews.{out-BoundRows, out-Conjunct, out-SourceRows, out-BoundCore, out-BoundSelect, out-BoundSource, roll-BoundRows, roll-Conjunct, roll-SourceRows, roll-out-BoundRows, roll-out-Conjunct, roll-out-SourceRows, roll-out-BoundCore, roll-out-BoundSource}
use Rattle.sql_expr.specs.declared.tree.Expr.{Expr}
use Rattle.sql_meaning.specs.Found.{clean}
use Rattle.sql_meaning.specs.Select.{selected}
use Rattle.sql_meaning.specs.Statements.{Meant, Tables, condition_of, conjunct_meaning, core_meaning, core_of, rows_meaning, select_meaning, set_found, source_meaning, source_rows_meaning, times_of}
use Rattle.sql_meaning.proofs.TablesLemmas.{conjunct-out, core-out, rows-out, source-out, source_rows-out}
use Rattle.well_formed.specs.Cores.{IsCoreNode}
use Rattle.well_formed.specs.From.{IsSourceNode}
use Rattle.well_formed.specs.Given.{Schemas}
use Rattle.well_formed.specs.Rows.{AnyConjunct, AnyInput, IsRowsNode, IsSelectNode, IsWellFormedConjunct, IsWellFormedSource}
use Rattle.well_formed.proofs.Parts.{core_held, from_held, input_held, part_held, rows_held, whole_held}
use Rattle.plain_rows.proofs.Collecting.{take-next}
use Rattle.plain_rows.proofs.Fitting.{all-at}
use Rattle.plain_groups.proofs.Keying.{at-item}
use Rattle.plain_cores.specs.declared.table.Table.{Table}
use Rattle.plain_cores.specs.Known.{member_meant}
use Rattle.plain_select.specs.Settings.{CanAnswer, CanAnswerConjunct, CanAnswerConjuncts, CanAnswerCore, CanAnswerInput, CanAnswerRows, CanAnswerSources, IsSetting, source_with}

-- the same setting, of another part
pub set-on : (tables : List Table) (P Q : ℕ → Schemas → Type 0) → ((limit : ℕ) (schemas : Schemas) → P limit schemas → Q limit schemas) → IsSetting tables P → IsSetting tables Q
set-on tables P Q f set = record { limit = set.limit; schemas = set.schemas; well = f set.limit set.schemas set.well; meet = set.meet }

module _ (tables : List Table) where
  pub whole-rows : (select : BoundSelect) → CanAnswer tables select → CanAnswerRows tables (out-BoundSelect select).rows
  whole-rows select = set-on tables _ _ (λ limit schemas well. whole_held IsRowsNode AnyConjunct AnyInput (IsCoreNode limit) IsSelectNode (IsSourceNode schemas) select (out-BoundSelect select) well refl)

  pub rows-core : (rows : BoundRows) (core : BoundCore) → out-BoundRows rows ≡ BoundRows-F.Core core → CanAnswerRows tables rows → CanAnswerCore tables core
  rows-core rows core is = set-on tables _ _ (λ limit schemas well. rows_held IsRowsNode AnyConjunct AnyInput (IsCoreNode limit) IsSelectNode (IsSourceNode schemas) rows (BoundRows-F.Core core) well is)

  pub rows-left : (rows : BoundRows) (kind : SetKind) (all : Bool) (left right : BoundRows) (kinds : List SqlType) → out-BoundRows rows ≡ BoundRows-F.Set kind all left right kinds → CanAnswerRows tables rows → CanAnswerRows tables left
  rows-left rows kind all left right kinds is = set-on tables _ _ (λ limit schemas well. (rows_held IsRowsNode AnyConjunct AnyInput (IsCoreNode limit) IsSelectNode (IsSourceNode schemas) rows (BoundRows-F.Set kind all left right kinds) well is).0)

  pub rows-right : (rows : BoundRows) (kind : SetKind) (all : Bool) (left right : BoundRows) (kinds : List SqlType) → out-BoundRows rows ≡ BoundRows-F.Set kind all left right kinds → CanAnswerRows tables rows → CanAnswerRows tables right
  rows-right rows kind all left right kinds is = set-on tables _ _ (λ limit schemas well. (rows_held IsRowsNode AnyConjunct AnyInput (IsCoreNode limit) IsSelectNode (IsSourceNode schemas) rows (BoundRows-F.Set kind all left right kinds) well is).1)

  pub core-sources : (core : BoundCore) → CanAnswerCore tables core → CanAnswerSources tables (out-BoundCore core).sources
  core-sources core = set-on tables _ _ (λ limit schemas well. (core_held IsRowsNode AnyConjunct AnyInput (IsCoreNode limit) IsSelectNode (IsSourceNode schemas) core (out-BoundCore core) well refl).0)

  pub core-conjuncts : (core : BoundCore) → CanAnswerCore tables core → CanAnswerConjuncts tables (out-BoundCore core).conjuncts
  core-conjuncts core = set-on tables _ _ (λ limit schemas well. (core_held IsRowsNode AnyConjunct AnyInput (IsCoreNode limit) IsSelectNode (IsSourceNode schemas) core (out-BoundCore core) well refl).1)

  pub source-input : (sources : List BoundSource) (i : ℕ) (source : BoundSource) → i < length sources → source ≡ get_or sources i source → CanAnswerSources tables sources → CanAnswerInput tables (out-BoundSource source).rows
  source-input sources i source within is =
      set-on tables _ _ (λ limit schemas well. from_held IsRowsNode AnyConjunct AnyInput (IsCoreNode limit) IsSelectNode (IsSourceNode schemas) source (out-BoundSource source)
      (at-item (IsWellFormedSource limit schemas) sources i source (all-at (IsWellFormedSource limit schemas) sources well) within is) refl)

  pub conjunct-at : (conjuncts : List Conjunct) (i : ℕ) (conjunct : Conjunct) → i < length conjuncts → conjunct ≡ get_or conjuncts i conjunct → CanAnswerConjuncts tables conjuncts → CanAnswerConjunct tables conjunct
  conjunct-at conjuncts i conjunct within is =
      set-on tables _ _ (λ limit schemas well. at-item (IsWellFormedConjunct limit schemas) conjuncts i conjunct (all-at (IsWellFormedConjunct limit schemas) conjuncts well) within is)

  pub conjunct-query : (conjunct : Conjunct) (of : Expr) (query : BoundSelect) (negated : Bool) → out-Conjunct conjunct ≡ Conjunct-F.Member of query negated → CanAnswerConjunct tables conjunct → CanAnswer tables query
  conjunct-query conjunct of query negated is = set-on tables _ _ (λ limit schemas well. part_held IsRowsNode AnyConjunct AnyInput (IsCoreNode limit) IsSelectNode (IsSourceNode schemas) conjunct (Conjunct-F.Member of query negated) well is)

  pub input-query : (rows : SourceRows) (select : BoundSelect) → out-SourceRows rows ≡ SourceRows-F.Query select → CanAnswerInput tables rows → CanAnswer tables select
  input-query rows select is = set-on tables _ _ (λ limit schemas well. input_held IsRowsNode AnyConjunct AnyInput (IsCoreNode limit) IsSelectNode (IsSourceNode schemas) rows (SourceRows-F.Query select) well is)

-- ---- what the parts mean

abbrev pub condition_meant : Expr → Meant
condition_meant expr = record { condition = condition_of expr; faults = [] }

module _ (tables : Tables) where
  pub rows-core-is : (rows : BoundRows) (core : BoundCore) → out-BoundRows rows ≡ BoundRows-F.Core core → rows_meaning tables rows ≡ core_meaning tables core
  rows-core-is rows core is = ap (rows_meaning tables) (sym (roll-out-BoundRows rows) ∙ ap roll-BoundRows is) ∙ rows-out tables (BoundRows-F.Core core)

  pub rows-set-is : (rows : BoundRows) (kind : SetKind) (all : Bool) (left right : BoundRows) (kinds : List SqlType) → out-BoundRows rows ≡ BoundRows-F.Set kind all left right kinds
      → rows_meaning tables rows ≡ set_found (times_of kind all) (rows_meaning tables left) (rows_meaning tables right)
  rows-set-is rows kind all left right kinds is = ap (rows_meaning tables) (sym (roll-out-BoundRows rows) ∙ ap roll-BoundRows is) ∙ rows-out tables (BoundRows-F.Set kind all left right kinds)

  pub input-table-is : (rows : SourceRows) (name : List ℕ) → out-SourceRows rows ≡ SourceRows-F.Table name → source_rows_meaning tables rows ≡ clean (tables name)
  input-table-is rows name is = ap (source_rows_meaning tables) (sym (roll-out-SourceRows rows) ∙ ap roll-SourceRows is) ∙ source_rows-out tables (SourceRows-F.Table name)

  pub input-query-is : (rows : SourceRows) (select : BoundSelect) → out-SourceRows rows ≡ SourceRows-F.Query select → source_rows_meaning tables rows ≡ select_meaning tables select
  input-query-is rows select is = ap (source_rows_meaning tables) (sym (roll-out-SourceRows rows) ∙ ap roll-SourceRows is) ∙ source_rows-out tables (SourceRows-F.Query select)

  pub source-is : (source : BoundSource) → source_meaning tables source ≡ source_with (out-BoundSource source) (source_rows_meaning tables (out-BoundSource source).rows)
  source-is source = ap (source_meaning tables) (sym (roll-out-BoundSource source)) ∙ source-out tables (out-BoundSource source)

  pub condition-is : (conjunct : Conjunct) (expr : Expr) → out-Conjunct conjunct ≡ Conjunct-F.Condition expr → conjunct_meaning tables conjunct ≡ condition_meant expr
  condition-is conjunct expr is = ap (conjunct_meaning tables) (sym (roll-out-Conjunct conjunct) ∙ ap roll-Conjunct is) ∙ conjunct-out tables (Conjunct-F.Condition expr)

  pub member-is : (conjunct : Conjunct) (of : Expr) (query : BoundSelect) (negated : Bool) → out-Conjunct conjunct ≡ Conjunct-F.Member of query negated
      → conjunct_meaning tables conjunct ≡ member_meant negated (select_meaning tables query) of
  member-is conjunct of query negated is = ap (conjunct_meaning tables) (sym (roll-out-Conjunct conjunct) ∙ ap roll-Conjunct is) ∙ conjunct-out tables (Conjunct-F.Member of query negated)

  pub core-is : (core : BoundCore) → core_meaning tables core
      ≡ selected (core_of (map (conjunct_meaning tables) (out-BoundCore core).conjuncts) (out-BoundCore core).grouping (out-BoundCore core).items (out-BoundCore core).distinct) (map (source_meaning tables) (out-BoundCore core).sources)
  core-is core = ap (core_meaning tables) (sym (roll-out-BoundCore core)) ∙ core-out tables (out-BoundCore core)

map-over : {A B : Type 0} (f : A → B) (xs ys : List A) → map f (xs ++ ys) ≡ map f xs ++ map f ys
map-over f [] ys = refl
map-over f (x ∷ xs) ys = ap (λ l. f x ∷ l) (map-over f xs ys)

-- one item more
pub map-next : {A B C : Type 0} (f : A → C) (g : B → C) (old new : List A) (y : A) (xs : List B) (i : ℕ) (x : B) → i < length xs → x ≡ get_or xs i x → new ≡ old ++ y ∷ [] → f y ≡ g x
    → map f old ≡ map g (take i xs) → map f new ≡ map g (take (i + 1) xs)
map-next f g old new y xs i x within is pushed same before =
    ap (map f) pushed ∙ map-over f old (y ∷ []) ∙ ap (λ l. l ++ f y ∷ []) before ∙ ap (λ z. map g (take i xs) ++ z ∷ []) same
    ∙ sym (map-over g (take i xs) (x ∷ [])) ∙ ap (map g) (sym (take-next xs i x within is))
