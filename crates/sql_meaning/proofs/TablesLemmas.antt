-- The meaning of a SELECT doesn't see the order of its tables' rows.
use Rattle.std.proofs.Common.{◌≡◌, ℕ, Bool, List, [], ◌∷◌, ◌++◌, map, refl, sym, ap, ap₂, subst, false, Option, Ok, Err}
use Rattle.std.specs.Prelude.{flat_map}
use Rattle.ooc_types.specs.declared.value.Value.{Value}
use Rattle.ooc_bags.specs.Bags.{SameBag}
use Rattle.sql_expr.specs.declared.tree.Expr.{Expr}
use Rattle.sql_expr.specs.Arithmetic.{Meaning}
use Rattle.sql_expr.specs.Logic.{truth_value, negated_if}
use Rattle.sql_expr.specs.Meaning.{value_of}
use Rattle.bound_tree.specs.declared.select.Grouping.{Grouping as BoundGrouping}
use Rattle.bound_tree.specs.declared.select.BoundCore.{BoundCore}
use Rattle.bound_tree.specs.declared.select.BoundRows.{BoundRows}
use Rattle.bound_tree.specs.declared.select.BoundSelect.{BoundSelect}
use Rattle.bound_tree.specs.declared.select.BoundSource.{BoundSource}
use Rattle.bound_tree.specs.declared.select.Conjunct.{Conjunct}
use Rattle.bound_tree.specs.declared.select.SourceRows.{SourceRows}
use Rattle.bound_tree.specs.declared.select.BoundRows.TheOpen.{BoundCore-F, BoundRows-F, BoundSelect-F, BoundSource-F, Conjunct-F, SourceRows-F}
use Rattle.bound_tree.specs.declared.select.BoundRows.TheFolds.{fold-roll-BoundRows, fold-roll-Conjunct, fold-roll-SourceRows, fold-roll-BoundCore, fold-roll-BoundSelect, fold-roll-BoundSource, fold_out-BoundSelect, ind-BoundRows, map-BoundRows, map-Conjunct, map-SourceRows, map-BoundCore, map-BoundSelect, map-BoundSource}
use Rattle.bound_tree.specs.declared.select.BoundRows.TheViews.{out-BoundSelect, roll-BoundRows, roll-Conjunct, roll-SourceRows, roll-BoundCore, roll-BoundSelect, roll-BoundSource}
use Rattle.sql_meaning.specs.Found.{Found, Row, IsSame}
use Rattle.sql_meaning.specs.From.{Source}
use Rattle.sql_meaning.specs.Ordered.{value_at}
use Rattle.sql_meaning.specs.Select.{cut_found}
use Rattle.sql_meaning.specs.Sets.{Times, combined}
use Rattle.sql_meaning.specs.Same.{IsSameSource, AreSameSources, Agrees}
use Rattle.sql_meaning.specs.Statements.{Tables, Meant, member_says, membership, set_found, times_of, cut_of, core_of, rows_step, conjunct_step, source_rows_step, core_step, select_step, source_step, rows_meaning, select_meaning, conjunct_meaning, source_rows_meaning, core_meaning, source_meaning}
use Rattle.ooc_bags.proofs.Bags.{bag-refl, bag-append, bag-map}
use Rattle.sql_meaning.proofs.Stages.{same-clean, same-unless_faulted}
use Rattle.sql_meaning.proofs.SetLemmas.{combined-SameBag, member-SameBag}
use Rattle.sql_meaning.proofs.Selecting.{selected-same, cut-same}
use Rattle.sql_meaning.proofs.FreeSources.{agreed-same}

module _ (tables : Tables) where
  -- the meaning by the outermost part
  abbrev pub rows_from : BoundRows-F BoundRows Conjunct SourceRows BoundCore BoundSelect BoundSource → Found Row
  rows_from x = rows_step (map-BoundRows BoundRows Conjunct SourceRows BoundCore BoundSelect BoundSource (Found Row) Meant (Found Row) (Found Row) (Found Row) Source (rows_meaning tables) (conjunct_meaning tables) (source_rows_meaning tables) (core_meaning tables) (select_meaning tables) (source_meaning tables) x)

  pub rows-out : (x : BoundRows-F BoundRows Conjunct SourceRows BoundCore BoundSelect BoundSource) → rows_meaning tables (roll-BoundRows x) ≡ rows_from x
  rows-out x = fold-roll-BoundRows (Found Row) Meant (Found Row) (Found Row) (Found Row) Source rows_step conjunct_step (source_rows_step tables) core_step select_step source_step x

  -- the meaning by the outermost part
  abbrev pub conjunct_from : Conjunct-F BoundRows Conjunct SourceRows BoundCore BoundSelect BoundSource → Meant
  conjunct_from x = conjunct_step (map-Conjunct BoundRows Conjunct SourceRows BoundCore BoundSelect BoundSource (Found Row) Meant (Found Row) (Found Row) (Found Row) Source (rows_meaning tables) (conjunct_meaning tables) (source_rows_meaning tables) (core_meaning tables) (select_meaning tables) (source_meaning tables) x)

  pub conjunct-out : (x : Conjunct-F BoundRows Conjunct SourceRows BoundCore BoundSelect BoundSource) → conjunct_meaning tables (roll-Conjunct x) ≡ conjunct_from x
  conjunct-out x = fold-roll-Conjunct (Found Row) Meant (Found Row) (Found Row) (Found Row) Source rows_step conjunct_step (source_rows_step tables) core_step select_step source_step x

  -- the meaning by the outermost part
  abbrev pub source_rows_from : SourceRows-F BoundRows Conjunct SourceRows BoundCore BoundSelect BoundSource → Found Row
  source_rows_from x = (source_rows_step tables) (map-SourceRows BoundRows Conjunct SourceRows BoundCore BoundSelect BoundSource (Found Row) Meant (Found Row) (Found Row) (Found Row) Source (rows_meaning tables) (conjunct_meaning tables) (source_rows_meaning tables) (core_meaning tables) (select_meaning tables) (source_meaning tables) x)

  pub source_rows-out : (x : SourceRows-F BoundRows Conjunct SourceRows BoundCore BoundSelect BoundSource) → source_rows_meaning tables (roll-SourceRows x) ≡ source_rows_from x
  source_rows-out x = fold-roll-SourceRows (Found Row) Meant (Found Row) (Found Row) (Found Row) Source rows_step conjunct_step (source_rows_step tables) core_step select_step source_step x

  -- the meaning by the outermost part
  abbrev pub core_from : BoundCore-F BoundRows Conjunct SourceRows BoundCore BoundSelect BoundSource → Found Row
  core_from x = core_step (map-BoundCore BoundRows Conjunct SourceRows BoundCore BoundSelect BoundSource (Found Row) Meant (Found Row) (Found Row) (Found Row) Source (rows_meaning tables) (conjunct_meaning tables) (source_rows_meaning tables) (core_meaning tables) (select_meaning tables) (source_meaning tables) x)

  pub core-out : (x : BoundCore-F BoundRows Conjunct SourceRows BoundCore BoundSelect BoundSource) → core_meaning tables (roll-BoundCore x) ≡ core_from x
  core-out x = fold-roll-BoundCore (Found Row) Meant (Found Row) (Found Row) (Found Row) Source rows_step conjunct_step (source_rows_step tables) core_step select_step source_step x

  -- the meaning by the outermost part
  abbrev pub select_from : BoundSelect-F BoundRows Conjunct SourceRows BoundCore BoundSelect BoundSource → Found Row
  select_from x = select_step (map-BoundSelect BoundRows Conjunct SourceRows BoundCore BoundSelect BoundSource (Found Row) Meant (Found Row) (Found Row) (Found Row) Source (rows_meaning tables) (conjunct_meaning tables) (source_rows_meaning tables) (core_meaning tables) (select_meaning tables) (source_meaning tables) x)

  pub select-out : (x : BoundSelect-F BoundRows Conjunct SourceRows BoundCore BoundSelect BoundSource) → select_meaning tables (roll-BoundSelect x) ≡ select_from x
  select-out x = fold-roll-BoundSelect (Found Row) Meant (Found Row) (Found Row) (Found Row) Source rows_step conjunct_step (source_rows_step tables) core_step select_step source_step x

  -- the meaning by the outermost part
  abbrev pub source_from : BoundSource-F BoundRows Conjunct SourceRows BoundCore BoundSelect BoundSource → Source
  source_from x = source_step (map-BoundSource BoundRows Conjunct SourceRows BoundCore BoundSelect BoundSource (Found Row) Meant (Found Row) (Found Row) (Found Row) Source (rows_meaning tables) (conjunct_meaning tables) (source_rows_meaning tables) (core_meaning tables) (select_meaning tables) (source_meaning tables) x)

  pub source-out : (x : BoundSource-F BoundRows Conjunct SourceRows BoundCore BoundSelect BoundSource) → source_meaning tables (roll-BoundSource x) ≡ source_from x
  source-out x = fold-roll-BoundSource (Found Row) Meant (Found Row) (Found Row) (Found Row) Source rows_step conjunct_step (source_rows_step tables) core_step select_step source_step x

module _ (tables : Tables) where
  pub select-is : (select : BoundSelect) → select_meaning tables select ≡ cut_found (cut_of (out-BoundSelect select).cut) (rows_meaning tables (out-BoundSelect select).rows)
  select-is select = fold_out-BoundSelect (Found Row) Meant (Found Row) (Found Row) (Found Row) Source rows_step conjunct_step (source_rows_step tables) core_step select_step source_step select

-- the same condition, and the faults of its subquery as the same bag
pub record IsSameMeant (a b : Meant) : Type 0 where
  pub condition : a.condition ≡ b.condition
  pub faults : SameBag a.faults b.faults

same-member_says : (negated : Bool) (xs ys : List Value) → SameBag xs ys → (m : Meaning) → member_says negated xs m ≡ member_says negated ys m
same-member_says negated xs ys same (Err fault) = refl
same-member_says negated xs ys same (Ok value) = ap (λ truth. Ok (truth_value (negated_if negated truth))) (member-SameBag value xs ys same)

pub same-membership : (negated : Bool) (f g : Found Row) (expr : Expr) → SameBag f.rows g.rows → membership negated f expr ≡ membership negated g expr
same-membership negated f g expr same =
    λ i. record { plain = false; says = λ row. same-member_says negated (map (value_at 0) f.rows) (map (value_at 0) g.rows) (bag-map (value_at 0) f.rows g.rows same) (value_of row expr) i }

pub same-set : (times : Times) (f g h k : Found Row) → IsSame f h → IsSame g k → IsSame (set_found times f g) (set_found times h k)
same-set times f g h k left right =
    same-unless_faulted (f.faults ++ g.faults) (h.faults ++ k.faults) _ _ (bag-append f.faults h.faults g.faults k.faults left.faults right.faults)
    (same-clean (combined times f.rows g.rows) (combined times h.rows k.rows) (combined-SameBag times f.rows h.rows g.rows k.rows left.rows right.rows))

abbrev pub AreSameMeant : List Meant → List Meant → Type 0
AreSameMeant [] [] = Unit {0}
AreSameMeant [] (n ∷ ns) = ⊥
AreSameMeant (m ∷ ms) [] = ⊥
AreSameMeant (m ∷ ms) (n ∷ ns) = IsSameMeant m n × AreSameMeant ms ns

same-conditions : (ms ns : List Meant) → AreSameMeant ms ns → map (λ (meant : Meant). meant.condition) ms ≡ map (λ (meant : Meant). meant.condition) ns
same-conditions [] [] same = refl
same-conditions [] (n ∷ ns) same = absurd same
same-conditions (m ∷ ms) [] same = absurd same
same-conditions (m ∷ ms) (n ∷ ns) same = ap₂ ◌∷◌ same.0.condition (same-conditions ms ns same.1)

same-inner : (ms ns : List Meant) → AreSameMeant ms ns → SameBag (flat_map (λ (meant : Meant). meant.faults) ms) (flat_map (λ (meant : Meant). meant.faults) ns)
same-inner [] [] same = bag-refl []
same-inner [] (n ∷ ns) same = absurd same
same-inner (m ∷ ms) [] same = absurd same
same-inner (m ∷ ms) (n ∷ ns) same = bag-append m.faults n.faults (flat_map (λ (meant : Meant). meant.faults) ms) (flat_map (λ (meant : Meant). meant.faults) ns) same.0.faults (same-inner ms ns same.1)

pub same-core : (ms ns : List Meant) (ss ts : List Source) (grouping : Option BoundGrouping) (items : List Expr) (distinct : Bool) → AreSameMeant ms ns → AreSameSources ss ts
    → IsSame (core_step (record { sources = ss; conjuncts = ms; grouping = grouping; items = items; distinct = distinct })) (core_step (record { sources = ts; conjuncts = ns; grouping = grouping; items = items; distinct = distinct }))
same-core ms ns ss ts grouping items distinct conjuncts sources =
    selected-same (core_of ms grouping items distinct) (core_of ns grouping items distinct) ss ts
    (record { conjuncts = same-conditions ms ns conjuncts; inner = same-inner ms ns conjuncts; grouping = refl; having = refl; items = refl; distinct = refl }) sources

module _ (s t : Tables) (same : (name : List ℕ) → SameBag (s name) (t name)) where
  Rows : BoundRows → Type 0
  Rows x = IsSame (rows_meaning s x) (rows_meaning t x)

  Parts : Conjunct → Type 0
  Parts x = IsSameMeant (conjunct_meaning s x) (conjunct_meaning t x)

  Reads : SourceRows → Type 0
  Reads x = IsSame (source_rows_meaning s x) (source_rows_meaning t x)

  Cores : BoundCore → Type 0
  Cores x = IsSame (core_meaning s x) (core_meaning t x)

  Selects : BoundSelect → Type 0
  Selects x = IsSame (select_meaning s x) (select_meaning t x)

  Sources : BoundSource → Type 0
  Sources x = IsSameSource (source_meaning s x) (source_meaning t x)

  rows_case : (y : BoundRows-F ((x : BoundRows) × Rows x) ((x : Conjunct) × Parts x) ((x : SourceRows) × Reads x) ((x : BoundCore) × Cores x) ((x : BoundSelect) × Selects x) ((x : BoundSource) × Sources x)) → IsSame (rows_from s (map-BoundRows ((x : BoundRows) × Rows x) ((x : Conjunct) × Parts x) ((x : SourceRows) × Reads x) ((x : BoundCore) × Cores x) ((x : BoundSelect) × Selects x) ((x : BoundSource) × Sources x) BoundRows Conjunct SourceRows BoundCore BoundSelect BoundSource (λ e. e.0) (λ e. e.0) (λ e. e.0) (λ e. e.0) (λ e. e.0) (λ e. e.0) y)) (rows_from t (map-BoundRows ((x : BoundRows) × Rows x) ((x : Conjunct) × Parts x) ((x : SourceRows) × Reads x) ((x : BoundCore) × Cores x) ((x : BoundSelect) × Selects x) ((x : BoundSource) × Sources x) BoundRows Conjunct SourceRows BoundCore BoundSelect BoundSource (λ e. e.0) (λ e. e.0) (λ e. e.0) (λ e. e.0) (λ e. e.0) (λ e. e.0) y))
  unfolding Rows Parts Reads Cores Selects Sources
  rows_case (BoundRows-F.Core core) = core.1
  rows_case (BoundRows-F.Set kind all left right kinds) = same-set (times_of kind all) (rows_meaning s left.0) (rows_meaning s right.0) (rows_meaning t left.0) (rows_meaning t right.0) left.1 right.1

  rows_all : (x : BoundRows-F BoundRows Conjunct SourceRows BoundCore BoundSelect BoundSource) (y : BoundRows-F ((x : BoundRows) × Rows x) ((x : Conjunct) × Parts x) ((x : SourceRows) × Reads x) ((x : BoundCore) × Cores x) ((x : BoundSelect) × Selects x) ((x : BoundSource) × Sources x)) → map-BoundRows ((x : BoundRows) × Rows x) ((x : Conjunct) × Parts x) ((x : SourceRows) × Reads x) ((x : BoundCore) × Cores x) ((x : BoundSelect) × Selects x) ((x : BoundSource) × Sources x) BoundRows Conjunct SourceRows BoundCore BoundSelect BoundSource (λ e. e.0) (λ e. e.0) (λ e. e.0) (λ e. e.0) (λ e. e.0) (λ e. e.0) y ≡ x → Rows (roll-BoundRows x)
  unfolding Rows Parts Reads Cores Selects Sources
  rows_all x y is =
      subst (λ z. IsSame z (rows_meaning t (roll-BoundRows x))) (sym (rows-out s x)) (subst (λ z. IsSame (rows_from s x) z) (sym (rows-out t x)) (subst (λ z. IsSame (rows_from s z) (rows_from t z)) is (rows_case y)))

  conjunct_case : (y : Conjunct-F ((x : BoundRows) × Rows x) ((x : Conjunct) × Parts x) ((x : SourceRows) × Reads x) ((x : BoundCore) × Cores x) ((x : BoundSelect) × Selects x) ((x : BoundSource) × Sources x)) → IsSameMeant (conjunct_from s (map-Conjunct ((x : BoundRows) × Rows x) ((x : Conjunct) × Parts x) ((x : SourceRows) × Reads x) ((x : BoundCore) × Cores x) ((x : BoundSelect) × Selects x) ((x : BoundSource) × Sources x) BoundRows Conjunct SourceRows BoundCore BoundSelect BoundSource (λ e. e.0) (λ e. e.0) (λ e. e.0) (λ e. e.0) (λ e. e.0) (λ e. e.0) y)) (conjunct_from t (map-Conjunct ((x : BoundRows) × Rows x) ((x : Conjunct) × Parts x) ((x : SourceRows) × Reads x) ((x : BoundCore) × Cores x) ((x : BoundSelect) × Selects x) ((x : BoundSource) × Sources x) BoundRows Conjunct SourceRows BoundCore BoundSelect BoundSource (λ e. e.0) (λ e. e.0) (λ e. e.0) (λ e. e.0) (λ e. e.0) (λ e. e.0) y))
  unfolding Rows Parts Reads Cores Selects Sources
  conjunct_case (Conjunct-F.Condition expr) = record { condition = refl; faults = bag-refl [] }
  conjunct_case (Conjunct-F.Member expr query negated) = record { condition = same-membership negated (select_meaning s query.0) (select_meaning t query.0) expr query.1.rows; faults = query.1.faults }

  conjunct_all : (x : Conjunct-F BoundRows Conjunct SourceRows BoundCore BoundSelect BoundSource) (y : Conjunct-F ((x : BoundRows) × Rows x) ((x : Conjunct) × Parts x) ((x : SourceRows) × Reads x) ((x : BoundCore) × Cores x) ((x : BoundSelect) × Selects x) ((x : BoundSource) × Sources x)) → map-Conjunct ((x : BoundRows) × Rows x) ((x : Conjunct) × Parts x) ((x : SourceRows) × Reads x) ((x : BoundCore) × Cores x) ((x : BoundSelect) × Selects x) ((x : BoundSource) × Sources x) BoundRows Conjunct SourceRows BoundCore BoundSelect BoundSource (λ e. e.0) (λ e. e.0) (λ e. e.0) (λ e. e.0) (λ e. e.0) (λ e. e.0) y ≡ x → Parts (roll-Conjunct x)
  unfolding Rows Parts Reads Cores Selects Sources
  conjunct_all x y is =
      subst (λ z. IsSameMeant z (conjunct_meaning t (roll-Conjunct x))) (sym (conjunct-out s x)) (subst (λ z. IsSameMeant (conjunct_from s x) z) (sym (conjunct-out t x)) (subst (λ z. IsSameMeant (conjunct_from s z) (conjunct_from t z)) is (conjunct_case y)))

  source_rows_case : (y : SourceRows-F ((x : BoundRows) × Rows x) ((x : Conjunct) × Parts x) ((x : SourceRows) × Reads x) ((x : BoundCore) × Cores x) ((x : BoundSelect) × Selects x) ((x : BoundSource) × Sources x)) → IsSame (source_rows_from s (map-SourceRows ((x : BoundRows) × Rows x) ((x : Conjunct) × Parts x) ((x : SourceRows) × Reads x) ((x : BoundCore) × Cores x) ((x : BoundSelect) × Selects x) ((x : BoundSource) × Sources x) BoundRows Conjunct SourceRows BoundCore BoundSelect BoundSource (λ e. e.0) (λ e. e.0) (λ e. e.0) (λ e. e.0) (λ e. e.0) (λ e. e.0) y)) (source_rows_from t (map-SourceRows ((x : BoundRows) × Rows x) ((x : Conjunct) × Parts x) ((x : SourceRows) × Reads x) ((x : BoundCore) × Cores x) ((x : BoundSelect) × Selects x) ((x : BoundSource) × Sources x) BoundRows Conjunct SourceRows BoundCore BoundSelect BoundSource (λ e. e.0) (λ e. e.0) (λ e. e.0) (λ e. e.0) (λ e. e.0) (λ e. e.0) y))
  unfolding Rows Parts Reads Cores Selects Sources
  source_rows_case (SourceRows-F.Table name) = same-clean (s name) (t name) (same name)
  source_rows_case (SourceRows-F.Query query) = query.1

  source_rows_all : (x : SourceRows-F BoundRows Conjunct SourceRows BoundCore BoundSelect BoundSource) (y : SourceRows-F ((x : BoundRows) × Rows x) ((x : Conjunct) × Parts x) ((x : SourceRows) × Reads x) ((x : BoundCore) × Cores x) ((x : BoundSelect) × Selects x) ((x : BoundSource) × Sources x)) → map-SourceRows ((x : BoundRows) × Rows x) ((x : Conjunct) × Parts x) ((x : SourceRows) × Reads x) ((x : BoundCore) × Cores x) ((x : BoundSelect) × Selects x) ((x : BoundSource) × Sources x) BoundRows Conjunct SourceRows BoundCore BoundSelect BoundSource (λ e. e.0) (λ e. e.0) (λ e. e.0) (λ e. e.0) (λ e. e.0) (λ e. e.0) y ≡ x → Reads (roll-SourceRows x)
  unfolding Rows Parts Reads Cores Selects Sources
  source_rows_all x y is =
      subst (λ z. IsSame z (source_rows_meaning t (roll-SourceRows x))) (sym (source_rows-out s x)) (subst (λ z. IsSame (source_rows_from s x) z) (sym (source_rows-out t x)) (subst (λ z. IsSame (source_rows_from s z) (source_rows_from t z)) is (source_rows_case y)))

  core_case : (y : BoundCore-F ((x : BoundRows) × Rows x) ((x : Conjunct) × Parts x) ((x : SourceRows) × Reads x) ((x : BoundCore) × Cores x) ((x : BoundSelect) × Selects x) ((x : BoundSource) × Sources x)) → IsSame (core_from s (map-BoundCore ((x : BoundRows) × Rows x) ((x : Conjunct) × Parts x) ((x : SourceRows) × Reads x) ((x : BoundCore) × Cores x) ((x : BoundSelect) × Selects x) ((x : BoundSource) × Sources x) BoundRows Conjunct SourceRows BoundCore BoundSelect BoundSource (λ e. e.0) (λ e. e.0) (λ e. e.0) (λ e. e.0) (λ e. e.0) (λ e. e.0) y)) (core_from t (map-BoundCore ((x : BoundRows) × Rows x) ((x : Conjunct) × Parts x) ((x : SourceRows) × Reads x) ((x : BoundCore) × Cores x) ((x : BoundSelect) × Selects x) ((x : BoundSource) × Sources x) BoundRows Conjunct SourceRows BoundCore BoundSelect BoundSource (λ e. e.0) (λ e. e.0) (λ e. e.0) (λ e. e.0) (λ e. e.0) (λ e. e.0) y))
  unfolding Rows Parts Reads Cores Selects Sources
  core_case y =
      same-core (map (conjunct_meaning s) (map (λ e. e.0) y.conjuncts)) (map (conjunct_meaning t) (map (λ e. e.0) y.conjuncts))
      (map (source_meaning s) (map (λ e. e.0) y.sources)) (map (source_meaning t) (map (λ e. e.0) y.sources)) y.grouping y.items y.distinct
      (all_parts y.conjuncts) (all_sources y.sources)
    where
      all_parts : (list : List ((x : Conjunct) × Parts x)) → AreSameMeant (map (conjunct_meaning s) (map (λ e. e.0) list)) (map (conjunct_meaning t) (map (λ e. e.0) list))
      all_parts [] = tt
      all_parts (c ∷ list) = (c.1, all_parts list)

      all_sources : (list : List ((x : BoundSource) × Sources x)) → AreSameSources (map (source_meaning s) (map (λ e. e.0) list)) (map (source_meaning t) (map (λ e. e.0) list))
      all_sources [] = tt
      all_sources (c ∷ list) = (c.1, all_sources list)

  core_all : (x : BoundCore-F BoundRows Conjunct SourceRows BoundCore BoundSelect BoundSource) (y : BoundCore-F ((x : BoundRows) × Rows x) ((x : Conjunct) × Parts x) ((x : SourceRows) × Reads x) ((x : BoundCore) × Cores x) ((x : BoundSelect) × Selects x) ((x : BoundSource) × Sources x)) → map-BoundCore ((x : BoundRows) × Rows x) ((x : Conjunct) × Parts x) ((x : SourceRows) × Reads x) ((x : BoundCore) × Cores x) ((x : BoundSelect) × Selects x) ((x : BoundSource) × Sources x) BoundRows Conjunct SourceRows BoundCore BoundSelect BoundSource (λ e. e.0) (λ e. e.0) (λ e. e.0) (λ e. e.0) (λ e. e.0) (λ e. e.0) y ≡ x → Cores (roll-BoundCore x)
  unfolding Rows Parts Reads Cores Selects Sources
  core_all x y is =
      subst (λ z. IsSame z (core_meaning t (roll-BoundCore x))) (sym (core-out s x)) (subst (λ z. IsSame (core_from s x) z) (sym (core-out t x)) (subst (λ z. IsSame (core_from s z) (core_from t z)) is (core_case y)))

  select_case : (y : BoundSelect-F ((x : BoundRows) × Rows x) ((x : Conjunct) × Parts x) ((x : SourceRows) × Reads x) ((x : BoundCore) × Cores x) ((x : BoundSelect) × Selects x) ((x : BoundSource) × Sources x)) → IsSame (select_from s (map-BoundSelect ((x : BoundRows) × Rows x) ((x : Conjunct) × Parts x) ((x : SourceRows) × Reads x) ((x : BoundCore) × Cores x) ((x : BoundSelect) × Selects x) ((x : BoundSource) × Sources x) BoundRows Conjunct SourceRows BoundCore BoundSelect BoundSource (λ e. e.0) (λ e. e.0) (λ e. e.0) (λ e. e.0) (λ e. e.0) (λ e. e.0) y)) (select_from t (map-BoundSelect ((x : BoundRows) × Rows x) ((x : Conjunct) × Parts x) ((x : SourceRows) × Reads x) ((x : BoundCore) × Cores x) ((x : BoundSelect) × Selects x) ((x : BoundSource) × Sources x) BoundRows Conjunct SourceRows BoundCore BoundSelect BoundSource (λ e. e.0) (λ e. e.0) (λ e. e.0) (λ e. e.0) (λ e. e.0) (λ e. e.0) y))
  unfolding Rows Parts Reads Cores Selects Sources
  select_case y = agreed-same (cut_of y.cut) (cut_found (cut_of y.cut) (rows_meaning s y.rows.0)) (cut_found (cut_of y.cut) (rows_meaning t y.rows.0)) (cut-same (cut_of y.cut) (rows_meaning s y.rows.0) (rows_meaning t y.rows.0) y.rows.1)

  select_all : (x : BoundSelect-F BoundRows Conjunct SourceRows BoundCore BoundSelect BoundSource) (y : BoundSelect-F ((x : BoundRows) × Rows x) ((x : Conjunct) × Parts x) ((x : SourceRows) × Reads x) ((x : BoundCore) × Cores x) ((x : BoundSelect) × Selects x) ((x : BoundSource) × Sources x)) → map-BoundSelect ((x : BoundRows) × Rows x) ((x : Conjunct) × Parts x) ((x : SourceRows) × Reads x) ((x : BoundCore) × Cores x) ((x : BoundSelect) × Selects x) ((x : BoundSource) × Sources x) BoundRows Conjunct SourceRows BoundCore BoundSelect BoundSource (λ e. e.0) (λ e. e.0) (λ e. e.0) (λ e. e.0) (λ e. e.0) (λ e. e.0) y ≡ x → Selects (roll-BoundSelect x)
  unfolding Rows Parts Reads Cores Selects Sources
  select_all x y is =
      subst (λ z. IsSame z (select_meaning t (roll-BoundSelect x))) (sym (select-out s x)) (subst (λ z. IsSame (select_from s x) z) (sym (select-out t x)) (subst (λ z. IsSame (select_from s z) (select_from t z)) is (select_case y)))

  source_case : (y : BoundSource-F ((x : BoundRows) × Rows x) ((x : Conjunct) × Parts x) ((x : SourceRows) × Reads x) ((x : BoundCore) × Cores x) ((x : BoundSelect) × Selects x) ((x : BoundSource) × Sources x)) → IsSameSource (source_from s (map-BoundSource ((x : BoundRows) × Rows x) ((x : Conjunct) × Parts x) ((x : SourceRows) × Reads x) ((x : BoundCore) × Cores x) ((x : BoundSelect) × Selects x) ((x : BoundSource) × Sources x) BoundRows Conjunct SourceRows BoundCore BoundSelect BoundSource (λ e. e.0) (λ e. e.0) (λ e. e.0) (λ e. e.0) (λ e. e.0) (λ e. e.0) y)) (source_from t (map-BoundSource ((x : BoundRows) × Rows x) ((x : Conjunct) × Parts x) ((x : SourceRows) × Reads x) ((x : BoundCore) × Cores x) ((x : BoundSelect) × Selects x) ((x : BoundSource) × Sources x) BoundRows Conjunct SourceRows BoundCore BoundSelect BoundSource (λ e. e.0) (λ e. e.0) (λ e. e.0) (λ e. e.0) (λ e. e.0) (λ e. e.0) y))
  unfolding Rows Parts Reads Cores Selects Sources
  source_case y = record { found = y.rows.1; width = refl; pads = refl; on = refl }

  source_all : (x : BoundSource-F BoundRows Conjunct SourceRows BoundCore BoundSelect BoundSource) (y : BoundSource-F ((x : BoundRows) × Rows x) ((x : Conjunct) × Parts x) ((x : SourceRows) × Reads x) ((x : BoundCore) × Cores x) ((x : BoundSelect) × Selects x) ((x : BoundSource) × Sources x)) → map-BoundSource ((x : BoundRows) × Rows x) ((x : Conjunct) × Parts x) ((x : SourceRows) × Reads x) ((x : BoundCore) × Cores x) ((x : BoundSelect) × Selects x) ((x : BoundSource) × Sources x) BoundRows Conjunct SourceRows BoundCore BoundSelect BoundSource (λ e. e.0) (λ e. e.0) (λ e. e.0) (λ e. e.0) (λ e. e.0) (λ e. e.0) y ≡ x → Sources (roll-BoundSource x)
  unfolding Rows Parts Reads Cores Selects Sources
  source_all x y is =
      subst (λ z. IsSameSource z (source_meaning t (roll-BoundSource x))) (sym (source-out s x)) (subst (λ z. IsSameSource (source_from s x) z) (sym (source-out t x)) (subst (λ z. IsSameSource (source_from s z) (source_from t z)) is (source_case y)))

  pub rows-same : (rows : BoundRows) → IsSame (rows_meaning s rows) (rows_meaning t rows)
  unfolding Rows Parts Reads Cores Selects Sources
  rows-same = ind-BoundRows Rows Parts Reads Cores Selects Sources rows_all conjunct_all source_rows_all core_all select_all source_all

  pub select-same : (select : BoundSelect) → Agrees (cut_of (out-BoundSelect select).cut) (select_meaning s select) (select_meaning t select)
  unfolding Rows Parts Reads Cores Selects Sources
  select-same select =
      let cut = cut_of (out-BoundSelect select).cut in
      let rows = (out-BoundSelect select).rows in
      subst (λ z. Agrees cut z (select_meaning t select)) (sym (select-is s select))
      (subst (λ z. Agrees cut (cut_found cut (rows_meaning s rows)) z) (sym (select-is t select)) (cut-same cut (rows_meaning s rows) (rows_meaning t rows) (rows-same rows)))
