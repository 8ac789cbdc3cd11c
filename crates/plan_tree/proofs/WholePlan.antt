-- The plan of a SELECT means the SELECT.
use Rattle.std.proofs.Common.{◌≡◌, ℕ, ◌+◌, ◌≤◌, Bool, true, false, cond, List, [], ◌∷◌, map, length, refl, sym, ap, ap₂, ◌∙◌, subst, Option, Some, None}
use Rattle.std.specs.Prelude.{⊤}
use Rattle.std.specs.List.{AllByRecursion, cons_option}
use Rattle.ooc_bags.specs.Bags.{SameBag}
use Rattle.ooc_bags.specs.Rows.{row_eq}
use Rattle.ooc_bags.proofs.RowTests.{row_eq-Decides}
use Rattle.ooc_bags.proofs.Rearranged.{rearranged}
use Rattle.ooc_bags.proofs.Bags.{bag-refl, bag-trans}
use Rattle.sql_expr.specs.declared.tree.Expr.{Expr}
use Rattle.bound_tree.specs.declared.select.BoundCore.{BoundCore}
use Rattle.bound_tree.specs.declared.select.BoundRows.{BoundRows}
use Rattle.bound_tree.specs.declared.select.BoundSelect.{BoundSelect}
use Rattle.bound_tree.specs.declared.select.BoundSource.{BoundSource}
use Rattle.bound_tree.specs.declared.select.Conjunct.{Conjunct}
use Rattle.bound_tree.specs.declared.select.SourceRows.{SourceRows}
use Rattle.bound_tree.specs.declared.select.BoundRows.TheOpen.{BoundCore-F, BoundRows-F, BoundSelect-F, BoundSource-F, Conjunct-F, SourceRows-F}
use Rattle.bound_tree.specs.declared.select.BoundRows.TheFolds.{fold-roll-BoundRows, fold-roll-Conjunct, fold-roll-SourceRows, fold-roll-BoundCore, fold-roll-BoundSelect, fold-roll-BoundSource, fold_out-Conjunct, fold_out-BoundSelect, fold_out-BoundSource, every-BoundRows, every-Conjunct, every-SourceRows, every-BoundCore, every-BoundSelect, every-BoundSource, every_here-BoundCore, every_held-BoundRows, every_held-Conjunct, every_held-SourceRows, every_held-BoundCore, every_held-BoundSelect, every_held-BoundSource, ind-BoundRows, map-BoundRows, map-Conjunct, map-SourceRows, map-BoundCore, map-BoundSelect, map-BoundSource}
use Rattle.bound_tree.specs.declared.select.BoundRows.TheViews.{roll-out-BoundSource, out-Conjunct, out-BoundSelect, out-BoundSource, roll-BoundRows, roll-Conjunct, roll-SourceRows, roll-BoundCore, roll-BoundSelect, roll-BoundSource, out-roll-BoundRows, out-roll-Conjunct, out-roll-SourceRows, out-roll-BoundCore, out-roll-BoundSelect, out-roll-BoundSource}
use Rattle.sql_meaning.specs.Found.{Found, Row, IsSame, clean}
use Rattle.sql_meaning.specs.From.{Source}
use Rattle.sql_meaning.specs.Pool.{IsPlainCondition}
use Rattle.sql_meaning.specs.Same.{AreSameSources, Agrees}
use Rattle.sql_meaning.specs.Select.{cut_found, selected}
use Rattle.sql_meaning.specs.Statements.{Tables, Meant, condition_of, membership, core_of, cut_of, set_found, times_of, rows_meaning, conjunct_meaning, source_rows_meaning, core_meaning, select_meaning, source_meaning}
use Rattle.sql_meaning.proofs.FreeSources.{agreed-same}
use Rattle.sql_meaning.proofs.Selecting.{cut-same}
use Rattle.sql_meaning.proofs.Stages.{same-refl}
use Rattle.sql_meaning.proofs.TablesLemmas.{IsSameMeant, AreSameMeant, same-core, same-set, same-membership, select-is, rows-out, conjunct-out, source_rows-out, core-out, select-out, source-out, core_from, source_from}
use Rattle.plan_tree.specs.declared.stages.PlanConjunct.{PlanConjunct}
use Rattle.plan_tree.specs.declared.stages.PlanCore.{PlanCore}
use Rattle.plan_tree.specs.declared.stages.PlanInput.{PlanInput}
use Rattle.plan_tree.specs.declared.stages.PlanRows.{PlanRows}
use Rattle.plan_tree.specs.declared.stages.PlanSelect.{PlanSelect}
use Rattle.plan_tree.specs.declared.stages.PlanConjunct.TheOpen.{PlanConjunct-F, PlanInput-F, PlanRows-F}
use Rattle.plan_tree.specs.declared.stages.PlanConjunct.TheFolds.{fold-roll-PlanConjunct, fold-roll-PlanInput, fold-roll-PlanRows, fold-roll-PlanSelect}
use Rattle.plan_tree.specs.declared.stages.PlanConjunct.TheViews.{out-roll-PlanConjunct}
use Rattle.plan_tree.specs.Split.{is_plain_expr, top}
use Rattle.plan_tree.specs.Means.{Staged, plan_conjunct_meant, input_found, staged, plan_core_found, plan_rows_found, plan_select_found, plan_core_meaning, plan_conjunct_meaning, plan_input_meaning, plan_rows_meaning, plan_meaning}
use Rattle.plan_tree.specs.Plannable.{IsSure, columns_of_source, columns_of_sources, AreJoinable, IsWithinNode, IsWithin, IsPlannableCore}
use Rattle.plan_tree.specs.declared.parts.SourcePlan.{SourcePlan}
use Rattle.plan_tree.specs.Planned.{Counts, plain_in, plain_of, plain_conjuncts, planned_core, plan_rows_step, plan_conjunct_step, plan_input_step, plan_core_step, plan_select_step, plan_source_step, plan_of_rows, plan_of_conjunct, plan_of_input, plan_of_core, plan_of_select, plan_of_source}
use Rattle.plan_tree.proofs.FreePlan.{all-rearranged}
use Rattle.plan_tree.proofs.CoreLemmas.{columns_planned, planned_source, AreSoundSources, means_of, core-planned}

-- decorated lists of the same items: what holds where another fact does
zip-all : {A : Type 0} (E G : A → Type 0) (ys : List ((x : A) × (E x → G x))) (xs : List ((x : A) × E x)) → map (λ e. e.0) ys ≡ map (λ e. e.0) xs → AllByRecursion G (map (λ e. e.0) ys)
zip-all E G [] xs e = tt
zip-all E G (y ∷ ys) [] e = cc
zip-all E G (y ∷ ys) (x ∷ xs) e =
    let head : y.0 ≡ x.0 = cc in
    let tail : map (λ e. e.0) ys ≡ map (λ e. e.0) xs = cc in
    (y.1 (subst E (sym head) x.1), zip-all E G ys xs tail)

same-trans : {A : Type 0} (f g h : Found A) → IsSame f g → IsSame g h → IsSame f h
same-trans f g h a b = record { rows = bag-trans f.rows g.rows h.rows a.rows b.rows; faults = bag-trans f.faults g.faults h.faults a.faults b.faults }

bag-all : (P : Row → Type 0) (xs ys : List Row) → SameBag xs ys → AllByRecursion P ys → AllByRecursion P xs
bag-all P xs ys same all = all-rearranged P xs ys (rearranged row_eq row_eq-Decides xs ys same) all

module _ (tables : Tables) (counts : Counts) where
  rows-plan : (x : BoundRows-F BoundRows Conjunct SourceRows BoundCore BoundSelect BoundSource) → plan_of_rows counts (roll-BoundRows x) ≡ plan_rows_step (map-BoundRows BoundRows Conjunct SourceRows BoundCore BoundSelect BoundSource PlanRows PlanConjunct PlanInput PlanCore PlanSelect SourcePlan (plan_of_rows counts) (plan_of_conjunct counts) (plan_of_input counts) (plan_of_core counts) (plan_of_select counts) (plan_of_source counts) x)
  rows-plan x = fold-roll-BoundRows PlanRows PlanConjunct PlanInput PlanCore PlanSelect SourcePlan plan_rows_step plan_conjunct_step plan_input_step (plan_core_step counts) plan_select_step plan_source_step x

  conjunct-plan : (x : Conjunct-F BoundRows Conjunct SourceRows BoundCore BoundSelect BoundSource) → plan_of_conjunct counts (roll-Conjunct x) ≡ plan_conjunct_step (map-Conjunct BoundRows Conjunct SourceRows BoundCore BoundSelect BoundSource PlanRows PlanConjunct PlanInput PlanCore PlanSelect SourcePlan (plan_of_rows counts) (plan_of_conjunct counts) (plan_of_input counts) (plan_of_core counts) (plan_of_select counts) (plan_of_source counts) x)
  conjunct-plan x = fold-roll-Conjunct PlanRows PlanConjunct PlanInput PlanCore PlanSelect SourcePlan plan_rows_step plan_conjunct_step plan_input_step (plan_core_step counts) plan_select_step plan_source_step x

  source_rows-plan : (x : SourceRows-F BoundRows Conjunct SourceRows BoundCore BoundSelect BoundSource) → plan_of_input counts (roll-SourceRows x) ≡ plan_input_step (map-SourceRows BoundRows Conjunct SourceRows BoundCore BoundSelect BoundSource PlanRows PlanConjunct PlanInput PlanCore PlanSelect SourcePlan (plan_of_rows counts) (plan_of_conjunct counts) (plan_of_input counts) (plan_of_core counts) (plan_of_select counts) (plan_of_source counts) x)
  source_rows-plan x = fold-roll-SourceRows PlanRows PlanConjunct PlanInput PlanCore PlanSelect SourcePlan plan_rows_step plan_conjunct_step plan_input_step (plan_core_step counts) plan_select_step plan_source_step x

  core-plan : (x : BoundCore-F BoundRows Conjunct SourceRows BoundCore BoundSelect BoundSource) → plan_of_core counts (roll-BoundCore x) ≡ (plan_core_step counts) (map-BoundCore BoundRows Conjunct SourceRows BoundCore BoundSelect BoundSource PlanRows PlanConjunct PlanInput PlanCore PlanSelect SourcePlan (plan_of_rows counts) (plan_of_conjunct counts) (plan_of_input counts) (plan_of_core counts) (plan_of_select counts) (plan_of_source counts) x)
  core-plan x = fold-roll-BoundCore PlanRows PlanConjunct PlanInput PlanCore PlanSelect SourcePlan plan_rows_step plan_conjunct_step plan_input_step (plan_core_step counts) plan_select_step plan_source_step x

  select-plan : (x : BoundSelect-F BoundRows Conjunct SourceRows BoundCore BoundSelect BoundSource) → plan_of_select counts (roll-BoundSelect x) ≡ plan_select_step (map-BoundSelect BoundRows Conjunct SourceRows BoundCore BoundSelect BoundSource PlanRows PlanConjunct PlanInput PlanCore PlanSelect SourcePlan (plan_of_rows counts) (plan_of_conjunct counts) (plan_of_input counts) (plan_of_core counts) (plan_of_select counts) (plan_of_source counts) x)
  select-plan x = fold-roll-BoundSelect PlanRows PlanConjunct PlanInput PlanCore PlanSelect SourcePlan plan_rows_step plan_conjunct_step plan_input_step (plan_core_step counts) plan_select_step plan_source_step x

  source-plan : (x : BoundSource-F BoundRows Conjunct SourceRows BoundCore BoundSelect BoundSource) → plan_of_source counts (roll-BoundSource x) ≡ plan_source_step (map-BoundSource BoundRows Conjunct SourceRows BoundCore BoundSelect BoundSource PlanRows PlanConjunct PlanInput PlanCore PlanSelect SourcePlan (plan_of_rows counts) (plan_of_conjunct counts) (plan_of_input counts) (plan_of_core counts) (plan_of_select counts) (plan_of_source counts) x)
  source-plan x = fold-roll-BoundSource PlanRows PlanConjunct PlanInput PlanCore PlanSelect SourcePlan plan_rows_step plan_conjunct_step plan_input_step (plan_core_step counts) plan_select_step plan_source_step x

  Rows : BoundRows → Type 0
  Rows x = IsSame (plan_rows_meaning tables (plan_of_rows counts x)) (rows_meaning tables x)

  Parts : Conjunct → Type 0
  Parts x = IsSameMeant (plan_conjunct_meaning tables (plan_of_conjunct counts x)) (conjunct_meaning tables x)

  Reads : SourceRows → Type 0
  Reads x = IsSame (plan_input_meaning tables (plan_of_input counts x)) (source_rows_meaning tables x)

  Cores : BoundCore → Type 0
  Cores x = IsSame (plan_core_meaning tables (plan_of_core counts x)) (core_meaning tables x)

  Selects : BoundSelect → Type 0
  Selects x = IsSame (plan_meaning tables (plan_of_select counts x)) (select_meaning tables x)

  Sources : BoundSource → Type 0
  Sources x = IsSame (plan_input_meaning tables (plan_of_source counts x).input) (source_meaning tables x).found

  -- ---- the sources and conjuncts of a core

  source-plan-is : (source : BoundSource) → plan_of_source counts source ≡ plan_source_step (map-BoundSource BoundRows Conjunct SourceRows BoundCore BoundSelect BoundSource PlanRows PlanConjunct PlanInput PlanCore PlanSelect SourcePlan (plan_of_rows counts) (plan_of_conjunct counts) (plan_of_input counts) (plan_of_core counts) (plan_of_select counts) (plan_of_source counts) (out-BoundSource source))
  source-plan-is source = fold_out-BoundSource PlanRows PlanConjunct PlanInput PlanCore PlanSelect SourcePlan plan_rows_step plan_conjunct_step plan_input_step (plan_core_step counts) plan_select_step plan_source_step source

  source-is : (source : BoundSource) → source_meaning tables source ≡ source_from tables (out-BoundSource source)
  source-is source = ap (source_meaning tables) (sym (roll-out-BoundSource source)) ∙ source-out tables (out-BoundSource source)

  same-sources : (sources : List BoundSource) → AllByRecursion Sources sources → AreSameSources (map (planned_source tables) (map (plan_of_source counts) sources)) (map (source_meaning tables) sources)
  unfolding Rows Parts Reads Cores Selects Sources
  same-sources [] all = tt
  same-sources (source ∷ sources) all =
      let plan = source-plan-is source in
      let is = source-is source in (
        record {
          found = all.0;
          width = ap (λ (s : SourcePlan). s.width) plan ∙ sym (ap (λ (s : Source). s.width) is);
          pads = ap (λ (s : SourcePlan). s.pads) plan ∙ sym (ap (λ (s : Source). s.pads) is);
          on = ap (λ (s : SourcePlan). map condition_of s.on) plan ∙ sym (ap (λ (s : Source). s.on) is);
        },
        same-sources sources all.1,
      )

  columns-planned : (sources : List BoundSource) → columns_planned tables (map (plan_of_source counts) sources) ≡ columns_of_sources sources
  columns-planned [] = refl
  columns-planned (source ∷ sources) = ap₂ ◌+◌ (ap (λ (s : SourcePlan). s.width) (source-plan-is source)) (columns-planned sources)

  sound-sources : (at : ℕ) (sources : List BoundSource) → AreJoinable tables at sources → AllByRecursion Sources sources → AreSoundSources tables at (map (plan_of_source counts) sources)
  unfolding Rows Parts Reads Cores Selects Sources
  sound-sources at [] joinable all = tt
  sound-sources at (source ∷ sources) joinable all =
      let plan = source-plan-is source in
      let width : (plan_of_source counts source).width ≡ columns_of_source source = ap (λ (s : SourcePlan). s.width) plan in
      let on : (plan_of_source counts source).on ≡ (out-BoundSource source).on = ap (λ (s : SourcePlan). s.on) plan in
      let rows = plan_input_meaning tables (plan_of_source counts source).input in (
        subst (λ n. AllByRecursion (λ (row : Row). length row ≡ n) rows.rows) (sym width) (bag-all (λ row. length row ≡ columns_of_source source) rows.rows (source_meaning tables source).found.rows all.0.rows joinable.0),
        (
          subst (λ n. AllByRecursion (λ (e : Expr). top e ≤ at + n) (plan_of_source counts source).on) (sym width) (subst (AllByRecursion (λ (e : Expr). top e ≤ at + columns_of_source source)) (sym on) joinable.1.0),
          (
            subst (AllByRecursion IsSure) (sym on) joinable.1.1.0,
            subst (λ n. AreSoundSources tables (at + n) (map (plan_of_source counts) sources)) (sym width) (sound-sources (at + columns_of_source source) sources joinable.1.1.1 all.1),
          ),
        ),
      )

  same-conjuncts : (conjuncts : List Conjunct) → AllByRecursion Parts conjuncts → AreSameMeant (means_of tables (map (plan_of_conjunct counts) conjuncts)) (map (conjunct_meaning tables) conjuncts)
  unfolding Rows Parts Reads Cores Selects Sources
  same-conjuncts [] all = tt
  same-conjuncts (c ∷ conjuncts) all = (all.0, same-conjuncts conjuncts all.1)

  -- a plain conjunct is an expression of the bound statement
  plain-within : (columns : ℕ) (conjunct : Conjunct) (e : Expr) → IsWithin columns conjunct → plain_of (plan_of_conjunct counts conjunct) ≡ Some e → (IsPlainCondition (condition_of e)) × (top e ≤ columns)
  plain-within columns conjunct e within is = go (out-Conjunct conjunct) refl within
    where
      plan-is : plan_of_conjunct counts conjunct ≡ plan_conjunct_step (map-Conjunct BoundRows Conjunct SourceRows BoundCore BoundSelect BoundSource PlanRows PlanConjunct PlanInput PlanCore PlanSelect SourcePlan (plan_of_rows counts) (plan_of_conjunct counts) (plan_of_input counts) (plan_of_core counts) (plan_of_select counts) (plan_of_source counts) (out-Conjunct conjunct))
      plan-is = fold_out-Conjunct PlanRows PlanConjunct PlanInput PlanCore PlanSelect SourcePlan plan_rows_step plan_conjunct_step plan_input_step (plan_core_step counts) plan_select_step plan_source_step conjunct

      condition : (f : Expr) (b : Bool) → is_plain_expr f ≡ b → (top f ≤ columns) × IsSure f → cond b (Some f) None ≡ Some e → (IsPlainCondition (condition_of e)) × (top e ≤ columns)
      condition f true plain both h = let same : f ≡ e = cc in (subst (λ g. IsPlainCondition (condition_of g)) same (both.1 plain), subst (λ g. top g ≤ columns) same both.0)
      condition f false plain both h = cc

      go : (x : Conjunct-F BoundRows Conjunct SourceRows BoundCore BoundSelect BoundSource) → out-Conjunct conjunct ≡ x → IsWithinNode columns (out-Conjunct conjunct) → (IsPlainCondition (condition_of e)) × (top e ≤ columns)
      go (Conjunct-F.Condition f) out h =
          condition f (is_plain_expr f) refl (subst (IsWithinNode columns) out h)
          (ap plain_in (sym (out-roll-PlanConjunct (PlanConjunct-F.Condition f))) ∙ ap (λ x. plain_of (plan_conjunct_step (map-Conjunct BoundRows Conjunct SourceRows BoundCore BoundSelect BoundSource PlanRows PlanConjunct PlanInput PlanCore PlanSelect SourcePlan (plan_of_rows counts) (plan_of_conjunct counts) (plan_of_input counts) (plan_of_core counts) (plan_of_select counts) (plan_of_source counts) x))) (sym out) ∙ ap plain_of (sym plan-is) ∙ is)
      go (Conjunct-F.Member f query negated) out h =
          let no_plain : None ≡ plain_of (plan_of_conjunct counts conjunct) =
          ap plain_in (sym (out-roll-PlanConjunct (PlanConjunct-F.Member f (plan_of_select counts query) negated))) ∙ ap (λ x. plain_of (plan_conjunct_step (map-Conjunct BoundRows Conjunct SourceRows BoundCore BoundSelect BoundSource PlanRows PlanConjunct PlanInput PlanCore PlanSelect SourcePlan (plan_of_rows counts) (plan_of_conjunct counts) (plan_of_input counts) (plan_of_core counts) (plan_of_select counts) (plan_of_source counts) x))) (sym out) ∙ ap plain_of (sym plan-is) in
          cc

  plains-within : (columns : ℕ) (conjuncts : List Conjunct) → AllByRecursion (IsWithin columns) conjuncts
      → AllByRecursion (λ e. IsPlainCondition (condition_of e)) (plain_conjuncts (map (plan_of_conjunct counts) conjuncts)) × AllByRecursion (λ e. top e ≤ columns) (plain_conjuncts (map (plan_of_conjunct counts) conjuncts))
  plains-within columns [] all = (tt, tt)
  plains-within columns (c ∷ conjuncts) all = go (plain_of (plan_of_conjunct counts c)) refl (plains-within columns conjuncts all.1)
    where
      rest : List Expr
      rest = plain_conjuncts (map (plan_of_conjunct counts) conjuncts)

      go : (x : Option Expr) → plain_of (plan_of_conjunct counts c) ≡ x → AllByRecursion (λ e. IsPlainCondition (condition_of e)) rest × AllByRecursion (λ e. top e ≤ columns) rest
          → AllByRecursion (λ e. IsPlainCondition (condition_of e)) (cons_option x rest) × AllByRecursion (λ e. top e ≤ columns) (cons_option x rest)
      go None is both = both
      go (Some e) is both = let one = plain-within columns c e all.0 is in ((one.0, both.0), (one.1, both.1))

  rows_case : (y : BoundRows-F ((x : BoundRows) × (every-BoundRows (λ x. ⊤) (λ x. ⊤) (λ x. ⊤) (IsPlannableCore tables) (λ x. ⊤) (λ x. ⊤) x → Rows x)) ((x : Conjunct) × (every-Conjunct (λ x. ⊤) (λ x. ⊤) (λ x. ⊤) (IsPlannableCore tables) (λ x. ⊤) (λ x. ⊤) x → Parts x)) ((x : SourceRows) × (every-SourceRows (λ x. ⊤) (λ x. ⊤) (λ x. ⊤) (IsPlannableCore tables) (λ x. ⊤) (λ x. ⊤) x → Reads x)) ((x : BoundCore) × (every-BoundCore (λ x. ⊤) (λ x. ⊤) (λ x. ⊤) (IsPlannableCore tables) (λ x. ⊤) (λ x. ⊤) x → Cores x)) ((x : BoundSelect) × (every-BoundSelect (λ x. ⊤) (λ x. ⊤) (λ x. ⊤) (IsPlannableCore tables) (λ x. ⊤) (λ x. ⊤) x → Selects x)) ((x : BoundSource) × (every-BoundSource (λ x. ⊤) (λ x. ⊤) (λ x. ⊤) (IsPlannableCore tables) (λ x. ⊤) (λ x. ⊤) x → Sources x))) (z : BoundRows-F ((x : BoundRows) × every-BoundRows (λ x. ⊤) (λ x. ⊤) (λ x. ⊤) (IsPlannableCore tables) (λ x. ⊤) (λ x. ⊤) x) ((x : Conjunct) × every-Conjunct (λ x. ⊤) (λ x. ⊤) (λ x. ⊤) (IsPlannableCore tables) (λ x. ⊤) (λ x. ⊤) x) ((x : SourceRows) × every-SourceRows (λ x. ⊤) (λ x. ⊤) (λ x. ⊤) (IsPlannableCore tables) (λ x. ⊤) (λ x. ⊤) x) ((x : BoundCore) × every-BoundCore (λ x. ⊤) (λ x. ⊤) (λ x. ⊤) (IsPlannableCore tables) (λ x. ⊤) (λ x. ⊤) x) ((x : BoundSelect) × every-BoundSelect (λ x. ⊤) (λ x. ⊤) (λ x. ⊤) (IsPlannableCore tables) (λ x. ⊤) (λ x. ⊤) x) ((x : BoundSource) × every-BoundSource (λ x. ⊤) (λ x. ⊤) (λ x. ⊤) (IsPlannableCore tables) (λ x. ⊤) (λ x. ⊤) x)) → map-BoundRows ((x : BoundRows) × (every-BoundRows (λ x. ⊤) (λ x. ⊤) (λ x. ⊤) (IsPlannableCore tables) (λ x. ⊤) (λ x. ⊤) x → Rows x)) ((x : Conjunct) × (every-Conjunct (λ x. ⊤) (λ x. ⊤) (λ x. ⊤) (IsPlannableCore tables) (λ x. ⊤) (λ x. ⊤) x → Parts x)) ((x : SourceRows) × (every-SourceRows (λ x. ⊤) (λ x. ⊤) (λ x. ⊤) (IsPlannableCore tables) (λ x. ⊤) (λ x. ⊤) x → Reads x)) ((x : BoundCore) × (every-BoundCore (λ x. ⊤) (λ x. ⊤) (λ x. ⊤) (IsPlannableCore tables) (λ x. ⊤) (λ x. ⊤) x → Cores x)) ((x : BoundSelect) × (every-BoundSelect (λ x. ⊤) (λ x. ⊤) (λ x. ⊤) (IsPlannableCore tables) (λ x. ⊤) (λ x. ⊤) x → Selects x)) ((x : BoundSource) × (every-BoundSource (λ x. ⊤) (λ x. ⊤) (λ x. ⊤) (IsPlannableCore tables) (λ x. ⊤) (λ x. ⊤) x → Sources x)) BoundRows Conjunct SourceRows BoundCore BoundSelect BoundSource (λ e. e.0) (λ e. e.0) (λ e. e.0) (λ e. e.0) (λ e. e.0) (λ e. e.0) y ≡ map-BoundRows ((x : BoundRows) × every-BoundRows (λ x. ⊤) (λ x. ⊤) (λ x. ⊤) (IsPlannableCore tables) (λ x. ⊤) (λ x. ⊤) x) ((x : Conjunct) × every-Conjunct (λ x. ⊤) (λ x. ⊤) (λ x. ⊤) (IsPlannableCore tables) (λ x. ⊤) (λ x. ⊤) x) ((x : SourceRows) × every-SourceRows (λ x. ⊤) (λ x. ⊤) (λ x. ⊤) (IsPlannableCore tables) (λ x. ⊤) (λ x. ⊤) x) ((x : BoundCore) × every-BoundCore (λ x. ⊤) (λ x. ⊤) (λ x. ⊤) (IsPlannableCore tables) (λ x. ⊤) (λ x. ⊤) x) ((x : BoundSelect) × every-BoundSelect (λ x. ⊤) (λ x. ⊤) (λ x. ⊤) (IsPlannableCore tables) (λ x. ⊤) (λ x. ⊤) x) ((x : BoundSource) × every-BoundSource (λ x. ⊤) (λ x. ⊤) (λ x. ⊤) (IsPlannableCore tables) (λ x. ⊤) (λ x. ⊤) x) BoundRows Conjunct SourceRows BoundCore BoundSelect BoundSource (λ e. e.0) (λ e. e.0) (λ e. e.0) (λ e. e.0) (λ e. e.0) (λ e. e.0) z → Rows (roll-BoundRows (map-BoundRows ((x : BoundRows) × (every-BoundRows (λ x. ⊤) (λ x. ⊤) (λ x. ⊤) (IsPlannableCore tables) (λ x. ⊤) (λ x. ⊤) x → Rows x)) ((x : Conjunct) × (every-Conjunct (λ x. ⊤) (λ x. ⊤) (λ x. ⊤) (IsPlannableCore tables) (λ x. ⊤) (λ x. ⊤) x → Parts x)) ((x : SourceRows) × (every-SourceRows (λ x. ⊤) (λ x. ⊤) (λ x. ⊤) (IsPlannableCore tables) (λ x. ⊤) (λ x. ⊤) x → Reads x)) ((x : BoundCore) × (every-BoundCore (λ x. ⊤) (λ x. ⊤) (λ x. ⊤) (IsPlannableCore tables) (λ x. ⊤) (λ x. ⊤) x → Cores x)) ((x : BoundSelect) × (every-BoundSelect (λ x. ⊤) (λ x. ⊤) (λ x. ⊤) (IsPlannableCore tables) (λ x. ⊤) (λ x. ⊤) x → Selects x)) ((x : BoundSource) × (every-BoundSource (λ x. ⊤) (λ x. ⊤) (λ x. ⊤) (IsPlannableCore tables) (λ x. ⊤) (λ x. ⊤) x → Sources x)) BoundRows Conjunct SourceRows BoundCore BoundSelect BoundSource (λ e. e.0) (λ e. e.0) (λ e. e.0) (λ e. e.0) (λ e. e.0) (λ e. e.0) y))
  unfolding Rows Parts Reads Cores Selects Sources
  rows_case (BoundRows-F.Core y) (BoundRows-F.Core z) e =
      let same : y.0 ≡ z.0 = cc in
      subst (λ f. IsSame (plan_rows_meaning tables f) (rows_meaning tables (roll-BoundRows (BoundRows-F.Core y.0)))) (sym (rows-plan (BoundRows-F.Core y.0)))
      (subst (λ f. IsSame f (rows_meaning tables (roll-BoundRows (BoundRows-F.Core y.0)))) (sym (fold-roll-PlanRows Meant (Found Row) (Found Row) (Found Row) (Found Row) Staged plan_conjunct_meant (input_found tables) plan_rows_found plan_core_found plan_select_found staged (PlanRows-F.Core (plan_of_core counts y.0))))
      (subst (λ f. IsSame (plan_core_meaning tables (plan_of_core counts y.0)) f) (sym (rows-out tables (BoundRows-F.Core y.0))) (y.1 (subst (every-BoundCore (λ x. ⊤) (λ x. ⊤) (λ x. ⊤) (IsPlannableCore tables) (λ x. ⊤) (λ x. ⊤)) (sym same) z.1))))
  rows_case (BoundRows-F.Set kind all left right kinds) (BoundRows-F.Set kind' all' left' right' kinds') e =
      let l : left.0 ≡ left'.0 = cc in
      let r : right.0 ≡ right'.0 = cc in
      let x = BoundRows-F.Set kind all left.0 right.0 kinds in
      subst (λ f. IsSame (plan_rows_meaning tables f) (rows_meaning tables (roll-BoundRows x))) (sym (rows-plan x))
      (subst (λ f. IsSame f (rows_meaning tables (roll-BoundRows x))) (sym (fold-roll-PlanRows Meant (Found Row) (Found Row) (Found Row) (Found Row) Staged plan_conjunct_meant (input_found tables) plan_rows_found plan_core_found plan_select_found staged (PlanRows-F.Set kind all (plan_of_rows counts left.0) (plan_of_rows counts right.0))))
      (subst (λ f. IsSame (set_found (times_of kind all) (plan_rows_meaning tables (plan_of_rows counts left.0)) (plan_rows_meaning tables (plan_of_rows counts right.0))) f) (sym (rows-out tables x))
      (same-set (times_of kind all) (plan_rows_meaning tables (plan_of_rows counts left.0)) (plan_rows_meaning tables (plan_of_rows counts right.0)) (rows_meaning tables left.0) (rows_meaning tables right.0)
      (left.1 (subst (every-BoundRows (λ x. ⊤) (λ x. ⊤) (λ x. ⊤) (IsPlannableCore tables) (λ x. ⊤) (λ x. ⊤)) (sym l) left'.1)) (right.1 (subst (every-BoundRows (λ x. ⊤) (λ x. ⊤) (λ x. ⊤) (IsPlannableCore tables) (λ x. ⊤) (λ x. ⊤)) (sym r) right'.1)))))
  rows_case (BoundRows-F.Core y) (BoundRows-F.Set kind' all' left' right' kinds') e = cc
  rows_case (BoundRows-F.Set kind all left right kinds) (BoundRows-F.Core z) e = cc

  rows_all : (x : BoundRows-F BoundRows Conjunct SourceRows BoundCore BoundSelect BoundSource) (y : BoundRows-F ((x : BoundRows) × (every-BoundRows (λ x. ⊤) (λ x. ⊤) (λ x. ⊤) (IsPlannableCore tables) (λ x. ⊤) (λ x. ⊤) x → Rows x)) ((x : Conjunct) × (every-Conjunct (λ x. ⊤) (λ x. ⊤) (λ x. ⊤) (IsPlannableCore tables) (λ x. ⊤) (λ x. ⊤) x → Parts x)) ((x : SourceRows) × (every-SourceRows (λ x. ⊤) (λ x. ⊤) (λ x. ⊤) (IsPlannableCore tables) (λ x. ⊤) (λ x. ⊤) x → Reads x)) ((x : BoundCore) × (every-BoundCore (λ x. ⊤) (λ x. ⊤) (λ x. ⊤) (IsPlannableCore tables) (λ x. ⊤) (λ x. ⊤) x → Cores x)) ((x : BoundSelect) × (every-BoundSelect (λ x. ⊤) (λ x. ⊤) (λ x. ⊤) (IsPlannableCore tables) (λ x. ⊤) (λ x. ⊤) x → Selects x)) ((x : BoundSource) × (every-BoundSource (λ x. ⊤) (λ x. ⊤) (λ x. ⊤) (IsPlannableCore tables) (λ x. ⊤) (λ x. ⊤) x → Sources x))) → map-BoundRows ((x : BoundRows) × (every-BoundRows (λ x. ⊤) (λ x. ⊤) (λ x. ⊤) (IsPlannableCore tables) (λ x. ⊤) (λ x. ⊤) x → Rows x)) ((x : Conjunct) × (every-Conjunct (λ x. ⊤) (λ x. ⊤) (λ x. ⊤) (IsPlannableCore tables) (λ x. ⊤) (λ x. ⊤) x → Parts x)) ((x : SourceRows) × (every-SourceRows (λ x. ⊤) (λ x. ⊤) (λ x. ⊤) (IsPlannableCore tables) (λ x. ⊤) (λ x. ⊤) x → Reads x)) ((x : BoundCore) × (every-BoundCore (λ x. ⊤) (λ x. ⊤) (λ x. ⊤) (IsPlannableCore tables) (λ x. ⊤) (λ x. ⊤) x → Cores x)) ((x : BoundSelect) × (every-BoundSelect (λ x. ⊤) (λ x. ⊤) (λ x. ⊤) (IsPlannableCore tables) (λ x. ⊤) (λ x. ⊤) x → Selects x)) ((x : BoundSource) × (every-BoundSource (λ x. ⊤) (λ x. ⊤) (λ x. ⊤) (IsPlannableCore tables) (λ x. ⊤) (λ x. ⊤) x → Sources x)) BoundRows Conjunct SourceRows BoundCore BoundSelect BoundSource (λ e. e.0) (λ e. e.0) (λ e. e.0) (λ e. e.0) (λ e. e.0) (λ e. e.0) y ≡ x → every-BoundRows (λ x. ⊤) (λ x. ⊤) (λ x. ⊤) (IsPlannableCore tables) (λ x. ⊤) (λ x. ⊤) (roll-BoundRows x) → Rows (roll-BoundRows x)
  rows_all x y is every =
      let held = every_held-BoundRows (λ x. ⊤) (λ x. ⊤) (λ x. ⊤) (IsPlannableCore tables) (λ x. ⊤) (λ x. ⊤) (roll-BoundRows x) every in
      subst (λ w. Rows (roll-BoundRows w)) is (rows_case y held.0 (is ∙ sym (out-roll-BoundRows x) ∙ sym held.1))

  conjunct_case : (y : Conjunct-F ((x : BoundRows) × (every-BoundRows (λ x. ⊤) (λ x. ⊤) (λ x. ⊤) (IsPlannableCore tables) (λ x. ⊤) (λ x. ⊤) x → Rows x)) ((x : Conjunct) × (every-Conjunct (λ x. ⊤) (λ x. ⊤) (λ x. ⊤) (IsPlannableCore tables) (λ x. ⊤) (λ x. ⊤) x → Parts x)) ((x : SourceRows) × (every-SourceRows (λ x. ⊤) (λ x. ⊤) (λ x. ⊤) (IsPlannableCore tables) (λ x. ⊤) (λ x. ⊤) x → Reads x)) ((x : BoundCore) × (every-BoundCore (λ x. ⊤) (λ x. ⊤) (λ x. ⊤) (IsPlannableCore tables) (λ x. ⊤) (λ x. ⊤) x → Cores x)) ((x : BoundSelect) × (every-BoundSelect (λ x. ⊤) (λ x. ⊤) (λ x. ⊤) (IsPlannableCore tables) (λ x. ⊤) (λ x. ⊤) x → Selects x)) ((x : BoundSource) × (every-BoundSource (λ x. ⊤) (λ x. ⊤) (λ x. ⊤) (IsPlannableCore tables) (λ x. ⊤) (λ x. ⊤) x → Sources x))) (z : Conjunct-F ((x : BoundRows) × every-BoundRows (λ x. ⊤) (λ x. ⊤) (λ x. ⊤) (IsPlannableCore tables) (λ x. ⊤) (λ x. ⊤) x) ((x : Conjunct) × every-Conjunct (λ x. ⊤) (λ x. ⊤) (λ x. ⊤) (IsPlannableCore tables) (λ x. ⊤) (λ x. ⊤) x) ((x : SourceRows) × every-SourceRows (λ x. ⊤) (λ x. ⊤) (λ x. ⊤) (IsPlannableCore tables) (λ x. ⊤) (λ x. ⊤) x) ((x : BoundCore) × every-BoundCore (λ x. ⊤) (λ x. ⊤) (λ x. ⊤) (IsPlannableCore tables) (λ x. ⊤) (λ x. ⊤) x) ((x : BoundSelect) × every-BoundSelect (λ x. ⊤) (λ x. ⊤) (λ x. ⊤) (IsPlannableCore tables) (λ x. ⊤) (λ x. ⊤) x) ((x : BoundSource) × every-BoundSource (λ x. ⊤) (λ x. ⊤) (λ x. ⊤) (IsPlannableCore tables) (λ x. ⊤) (λ x. ⊤) x)) → map-Conjunct ((x : BoundRows) × (every-BoundRows (λ x. ⊤) (λ x. ⊤) (λ x. ⊤) (IsPlannableCore tables) (λ x. ⊤) (λ x. ⊤) x → Rows x)) ((x : Conjunct) × (every-Conjunct (λ x. ⊤) (λ x. ⊤) (λ x. ⊤) (IsPlannableCore tables) (λ x. ⊤) (λ x. ⊤) x → Parts x)) ((x : SourceRows) × (every-SourceRows (λ x. ⊤) (λ x. ⊤) (λ x. ⊤) (IsPlannableCore tables) (λ x. ⊤) (λ x. ⊤) x → Reads x)) ((x : BoundCore) × (every-BoundCore (λ x. ⊤) (λ x. ⊤) (λ x. ⊤) (IsPlannableCore tables) (λ x. ⊤) (λ x. ⊤) x → Cores x)) ((x : BoundSelect) × (every-BoundSelect (λ x. ⊤) (λ x. ⊤) (λ x. ⊤) (IsPlannableCore tables) (λ x. ⊤) (λ x. ⊤) x → Selects x)) ((x : BoundSource) × (every-BoundSource (λ x. ⊤) (λ x. ⊤) (λ x. ⊤) (IsPlannableCore tables) (λ x. ⊤) (λ x. ⊤) x → Sources x)) BoundRows Conjunct SourceRows BoundCore BoundSelect BoundSource (λ e. e.0) (λ e. e.0) (λ e. e.0) (λ e. e.0) (λ e. e.0) (λ e. e.0) y ≡ map-Conjunct ((x : BoundRows) × every-BoundRows (λ x. ⊤) (λ x. ⊤) (λ x. ⊤) (IsPlannableCore tables) (λ x. ⊤) (λ x. ⊤) x) ((x : Conjunct) × every-Conjunct (λ x. ⊤) (λ x. ⊤) (λ x. ⊤) (IsPlannableCore tables) (λ x. ⊤) (λ x. ⊤) x) ((x : SourceRows) × every-SourceRows (λ x. ⊤) (λ x. ⊤) (λ x. ⊤) (IsPlannableCore tables) (λ x. ⊤) (λ x. ⊤) x) ((x : BoundCore) × every-BoundCore (λ x. ⊤) (λ x. ⊤) (λ x. ⊤) (IsPlannableCore tables) (λ x. ⊤) (λ x. ⊤) x) ((x : BoundSelect) × every-BoundSelect (λ x. ⊤) (λ x. ⊤) (λ x. ⊤) (IsPlannableCore tables) (λ x. ⊤) (λ x. ⊤) x) ((x : BoundSource) × every-BoundSource (λ x. ⊤) (λ x. ⊤) (λ x. ⊤) (IsPlannableCore tables) (λ x. ⊤) (λ x. ⊤) x) BoundRows Conjunct SourceRows BoundCore BoundSelect BoundSource (λ e. e.0) (λ e. e.0) (λ e. e.0) (λ e. e.0) (λ e. e.0) (λ e. e.0) z → Parts (roll-Conjunct (map-Conjunct ((x : BoundRows) × (every-BoundRows (λ x. ⊤) (λ x. ⊤) (λ x. ⊤) (IsPlannableCore tables) (λ x. ⊤) (λ x. ⊤) x → Rows x)) ((x : Conjunct) × (every-Conjunct (λ x. ⊤) (λ x. ⊤) (λ x. ⊤) (IsPlannableCore tables) (λ x. ⊤) (λ x. ⊤) x → Parts x)) ((x : SourceRows) × (every-SourceRows (λ x. ⊤) (λ x. ⊤) (λ x. ⊤) (IsPlannableCore tables) (λ x. ⊤) (λ x. ⊤) x → Reads x)) ((x : BoundCore) × (every-BoundCore (λ x. ⊤) (λ x. ⊤) (λ x. ⊤) (IsPlannableCore tables) (λ x. ⊤) (λ x. ⊤) x → Cores x)) ((x : BoundSelect) × (every-BoundSelect (λ x. ⊤) (λ x. ⊤) (λ x. ⊤) (IsPlannableCore tables) (λ x. ⊤) (λ x. ⊤) x → Selects x)) ((x : BoundSource) × (every-BoundSource (λ x. ⊤) (λ x. ⊤) (λ x. ⊤) (IsPlannableCore tables) (λ x. ⊤) (λ x. ⊤) x → Sources x)) BoundRows Conjunct SourceRows BoundCore BoundSelect BoundSource (λ e. e.0) (λ e. e.0) (λ e. e.0) (λ e. e.0) (λ e. e.0) (λ e. e.0) y))
  unfolding Rows Parts Reads Cores Selects Sources
  conjunct_case (Conjunct-F.Condition expr) z e =
      let x = Conjunct-F.Condition expr in
      subst (λ c. IsSameMeant (plan_conjunct_meaning tables c) (conjunct_meaning tables (roll-Conjunct x))) (sym (conjunct-plan x))
      (subst (λ m. IsSameMeant m (conjunct_meaning tables (roll-Conjunct x))) (sym (fold-roll-PlanConjunct Meant (Found Row) (Found Row) (Found Row) (Found Row) Staged plan_conjunct_meant (input_found tables) plan_rows_found plan_core_found plan_select_found staged (PlanConjunct-F.Condition expr)))
      (subst (λ m. IsSameMeant (record { condition = condition_of expr; faults = [] }) m) (sym (conjunct-out tables x)) (record { condition = refl; faults = bag-refl [] })))
  conjunct_case (Conjunct-F.Member expr query negated) (Conjunct-F.Member expr' query' negated') e =
      let same : query.0 ≡ query'.0 = cc in
      let x = Conjunct-F.Member expr query.0 negated in
      let found = query.1 (subst (every-BoundSelect (λ x. ⊤) (λ x. ⊤) (λ x. ⊤) (IsPlannableCore tables) (λ x. ⊤) (λ x. ⊤)) (sym same) query'.1) in
      subst (λ c. IsSameMeant (plan_conjunct_meaning tables c) (conjunct_meaning tables (roll-Conjunct x))) (sym (conjunct-plan x))
      (subst (λ m. IsSameMeant m (conjunct_meaning tables (roll-Conjunct x))) (sym (fold-roll-PlanConjunct Meant (Found Row) (Found Row) (Found Row) (Found Row) Staged plan_conjunct_meant (input_found tables) plan_rows_found plan_core_found plan_select_found staged (PlanConjunct-F.Member expr (plan_of_select counts query.0) negated)))
      (subst (λ m. IsSameMeant (record { condition = membership negated (plan_meaning tables (plan_of_select counts query.0)) expr; faults = (plan_meaning tables (plan_of_select counts query.0)).faults }) m) (sym (conjunct-out tables x))
      (record { condition = same-membership negated (plan_meaning tables (plan_of_select counts query.0)) (select_meaning tables query.0) expr found.rows; faults = found.faults })))
  conjunct_case (Conjunct-F.Member expr query negated) (Conjunct-F.Condition expr') e = cc

  conjunct_all : (x : Conjunct-F BoundRows Conjunct SourceRows BoundCore BoundSelect BoundSource) (y : Conjunct-F ((x : BoundRows) × (every-BoundRows (λ x. ⊤) (λ x. ⊤) (λ x. ⊤) (IsPlannableCore tables) (λ x. ⊤) (λ x. ⊤) x → Rows x)) ((x : Conjunct) × (every-Conjunct (λ x. ⊤) (λ x. ⊤) (λ x. ⊤) (IsPlannableCore tables) (λ x. ⊤) (λ x. ⊤) x → Parts x)) ((x : SourceRows) × (every-SourceRows (λ x. ⊤) (λ x. ⊤) (λ x. ⊤) (IsPlannableCore tables) (λ x. ⊤) (λ x. ⊤) x → Reads x)) ((x : BoundCore) × (every-BoundCore (λ x. ⊤) (λ x. ⊤) (λ x. ⊤) (IsPlannableCore tables) (λ x. ⊤) (λ x. ⊤) x → Cores x)) ((x : BoundSelect) × (every-BoundSelect (λ x. ⊤) (λ x. ⊤) (λ x. ⊤) (IsPlannableCore tables) (λ x. ⊤) (λ x. ⊤) x → Selects x)) ((x : BoundSource) × (every-BoundSource (λ x. ⊤) (λ x. ⊤) (λ x. ⊤) (IsPlannableCore tables) (λ x. ⊤) (λ x. ⊤) x → Sources x))) → map-Conjunct ((x : BoundRows) × (every-BoundRows (λ x. ⊤) (λ x. ⊤) (λ x. ⊤) (IsPlannableCore tables) (λ x. ⊤) (λ x. ⊤) x → Rows x)) ((x : Conjunct) × (every-Conjunct (λ x. ⊤) (λ x. ⊤) (λ x. ⊤) (IsPlannableCore tables) (λ x. ⊤) (λ x. ⊤) x → Parts x)) ((x : SourceRows) × (every-SourceRows (λ x. ⊤) (λ x. ⊤) (λ x. ⊤) (IsPlannableCore tables) (λ x. ⊤) (λ x. ⊤) x → Reads x)) ((x : BoundCore) × (every-BoundCore (λ x. ⊤) (λ x. ⊤) (λ x. ⊤) (IsPlannableCore tables) (λ x. ⊤) (λ x. ⊤) x → Cores x)) ((x : BoundSelect) × (every-BoundSelect (λ x. ⊤) (λ x. ⊤) (λ x. ⊤) (IsPlannableCore tables) (λ x. ⊤) (λ x. ⊤) x → Selects x)) ((x : BoundSource) × (every-BoundSource (λ x. ⊤) (λ x. ⊤) (λ x. ⊤) (IsPlannableCore tables) (λ x. ⊤) (λ x. ⊤) x → Sources x)) BoundRows Conjunct SourceRows BoundCore BoundSelect BoundSource (λ e. e.0) (λ e. e.0) (λ e. e.0) (λ e. e.0) (λ e. e.0) (λ e. e.0) y ≡ x → every-Conjunct (λ x. ⊤) (λ x. ⊤) (λ x. ⊤) (IsPlannableCore tables) (λ x. ⊤) (λ x. ⊤) (roll-Conjunct x) → Parts (roll-Conjunct x)
  conjunct_all x y is every =
      let held = every_held-Conjunct (λ x. ⊤) (λ x. ⊤) (λ x. ⊤) (IsPlannableCore tables) (λ x. ⊤) (λ x. ⊤) (roll-Conjunct x) every in
      subst (λ w. Parts (roll-Conjunct w)) is (conjunct_case y held.0 (is ∙ sym (out-roll-Conjunct x) ∙ sym held.1))

  source_rows_case : (y : SourceRows-F ((x : BoundRows) × (every-BoundRows (λ x. ⊤) (λ x. ⊤) (λ x. ⊤) (IsPlannableCore tables) (λ x. ⊤) (λ x. ⊤) x → Rows x)) ((x : Conjunct) × (every-Conjunct (λ x. ⊤) (λ x. ⊤) (λ x. ⊤) (IsPlannableCore tables) (λ x. ⊤) (λ x. ⊤) x → Parts x)) ((x : SourceRows) × (every-SourceRows (λ x. ⊤) (λ x. ⊤) (λ x. ⊤) (IsPlannableCore tables) (λ x. ⊤) (λ x. ⊤) x → Reads x)) ((x : BoundCore) × (every-BoundCore (λ x. ⊤) (λ x. ⊤) (λ x. ⊤) (IsPlannableCore tables) (λ x. ⊤) (λ x. ⊤) x → Cores x)) ((x : BoundSelect) × (every-BoundSelect (λ x. ⊤) (λ x. ⊤) (λ x. ⊤) (IsPlannableCore tables) (λ x. ⊤) (λ x. ⊤) x → Selects x)) ((x : BoundSource) × (every-BoundSource (λ x. ⊤) (λ x. ⊤) (λ x. ⊤) (IsPlannableCore tables) (λ x. ⊤) (λ x. ⊤) x → Sources x))) (z : SourceRows-F ((x : BoundRows) × every-BoundRows (λ x. ⊤) (λ x. ⊤) (λ x. ⊤) (IsPlannableCore tables) (λ x. ⊤) (λ x. ⊤) x) ((x : Conjunct) × every-Conjunct (λ x. ⊤) (λ x. ⊤) (λ x. ⊤) (IsPlannableCore tables) (λ x. ⊤) (λ x. ⊤) x) ((x : SourceRows) × every-SourceRows (λ x. ⊤) (λ x. ⊤) (λ x. ⊤) (IsPlannableCore tables) (λ x. ⊤) (λ x. ⊤) x) ((x : BoundCore) × every-BoundCore (λ x. ⊤) (λ x. ⊤) (λ x. ⊤) (IsPlannableCore tables) (λ x. ⊤) (λ x. ⊤) x) ((x : BoundSelect) × every-BoundSelect (λ x. ⊤) (λ x. ⊤) (λ x. ⊤) (IsPlannableCore tables) (λ x. ⊤) (λ x. ⊤) x) ((x : BoundSource) × every-BoundSource (λ x. ⊤) (λ x. ⊤) (λ x. ⊤) (IsPlannableCore tables) (λ x. ⊤) (λ x. ⊤) x)) → map-SourceRows ((x : BoundRows) × (every-BoundRows (λ x. ⊤) (λ x. ⊤) (λ x. ⊤) (IsPlannableCore tables) (λ x. ⊤) (λ x. ⊤) x → Rows x)) ((x : Conjunct) × (every-Conjunct (λ x. ⊤) (λ x. ⊤) (λ x. ⊤) (IsPlannableCore tables) (λ x. ⊤) (λ x. ⊤) x → Parts x)) ((x : SourceRows) × (every-SourceRows (λ x. ⊤) (λ x. ⊤) (λ x. ⊤) (IsPlannableCore tables) (λ x. ⊤) (λ x. ⊤) x → Reads x)) ((x : BoundCore) × (every-BoundCore (λ x. ⊤) (λ x. ⊤) (λ x. ⊤) (IsPlannableCore tables) (λ x. ⊤) (λ x. ⊤) x → Cores x)) ((x : BoundSelect) × (every-BoundSelect (λ x. ⊤) (λ x. ⊤) (λ x. ⊤) (IsPlannableCore tables) (λ x. ⊤) (λ x. ⊤) x → Selects x)) ((x : BoundSource) × (every-BoundSource (λ x. ⊤) (λ x. ⊤) (λ x. ⊤) (IsPlannableCore tables) (λ x. ⊤) (λ x. ⊤) x → Sources x)) BoundRows Conjunct SourceRows BoundCore BoundSelect BoundSource (λ e. e.0) (λ e. e.0) (λ e. e.0) (λ e. e.0) (λ e. e.0) (λ e. e.0) y ≡ map-SourceRows ((x : BoundRows) × every-BoundRows (λ x. ⊤) (λ x. ⊤) (λ x. ⊤) (IsPlannableCore tables) (λ x. ⊤) (λ x. ⊤) x) ((x : Conjunct) × every-Conjunct (λ x. ⊤) (λ x. ⊤) (λ x. ⊤) (IsPlannableCore tables) (λ x. ⊤) (λ x. ⊤) x) ((x : SourceRows) × every-SourceRows (λ x. ⊤) (λ x. ⊤) (λ x. ⊤) (IsPlannableCore tables) (λ x. ⊤) (λ x. ⊤) x) ((x : BoundCore) × every-BoundCore (λ x. ⊤) (λ x. ⊤) (λ x. ⊤) (IsPlannableCore tables) (λ x. ⊤) (λ x. ⊤) x) ((x : BoundSelect) × every-BoundSelect (λ x. ⊤) (λ x. ⊤) (λ x. ⊤) (IsPlannableCore tables) (λ x. ⊤) (λ x. ⊤) x) ((x : BoundSource) × every-BoundSource (λ x. ⊤) (λ x. ⊤) (λ x. ⊤) (IsPlannableCore tables) (λ x. ⊤) (λ x. ⊤) x) BoundRows Conjunct SourceRows BoundCore BoundSelect BoundSource (λ e. e.0) (λ e. e.0) (λ e. e.0) (λ e. e.0) (λ e. e.0) (λ e. e.0) z → Reads (roll-SourceRows (map-SourceRows ((x : BoundRows) × (every-BoundRows (λ x. ⊤) (λ x. ⊤) (λ x. ⊤) (IsPlannableCore tables) (λ x. ⊤) (λ x. ⊤) x → Rows x)) ((x : Conjunct) × (every-Conjunct (λ x. ⊤) (λ x. ⊤) (λ x. ⊤) (IsPlannableCore tables) (λ x. ⊤) (λ x. ⊤) x → Parts x)) ((x : SourceRows) × (every-SourceRows (λ x. ⊤) (λ x. ⊤) (λ x. ⊤) (IsPlannableCore tables) (λ x. ⊤) (λ x. ⊤) x → Reads x)) ((x : BoundCore) × (every-BoundCore (λ x. ⊤) (λ x. ⊤) (λ x. ⊤) (IsPlannableCore tables) (λ x. ⊤) (λ x. ⊤) x → Cores x)) ((x : BoundSelect) × (every-BoundSelect (λ x. ⊤) (λ x. ⊤) (λ x. ⊤) (IsPlannableCore tables) (λ x. ⊤) (λ x. ⊤) x → Selects x)) ((x : BoundSource) × (every-BoundSource (λ x. ⊤) (λ x. ⊤) (λ x. ⊤) (IsPlannableCore tables) (λ x. ⊤) (λ x. ⊤) x → Sources x)) BoundRows Conjunct SourceRows BoundCore BoundSelect BoundSource (λ e. e.0) (λ e. e.0) (λ e. e.0) (λ e. e.0) (λ e. e.0) (λ e. e.0) y))
  unfolding Rows Parts Reads Cores Selects Sources
  source_rows_case (SourceRows-F.Table name) z e =
      let x = SourceRows-F.Table name in
      subst (λ f. IsSame (plan_input_meaning tables f) (source_rows_meaning tables (roll-SourceRows x))) (sym (source_rows-plan x))
      (subst (λ f. IsSame f (source_rows_meaning tables (roll-SourceRows x))) (sym (fold-roll-PlanInput Meant (Found Row) (Found Row) (Found Row) (Found Row) Staged plan_conjunct_meant (input_found tables) plan_rows_found plan_core_found plan_select_found staged (PlanInput-F.Table name)))
      (subst (λ f. IsSame (clean (tables name)) f) (sym (source_rows-out tables x)) (same-refl (clean (tables name)))))
  source_rows_case (SourceRows-F.Query query) (SourceRows-F.Query query') e =
      let same : query.0 ≡ query'.0 = cc in
      let x = SourceRows-F.Query query.0 in
      subst (λ f. IsSame (plan_input_meaning tables f) (source_rows_meaning tables (roll-SourceRows x))) (sym (source_rows-plan x))
      (subst (λ f. IsSame f (source_rows_meaning tables (roll-SourceRows x))) (sym (fold-roll-PlanInput Meant (Found Row) (Found Row) (Found Row) (Found Row) Staged plan_conjunct_meant (input_found tables) plan_rows_found plan_core_found plan_select_found staged (PlanInput-F.Query (plan_of_select counts query.0))))
      (subst (λ f. IsSame (plan_meaning tables (plan_of_select counts query.0)) f) (sym (source_rows-out tables x)) (query.1 (subst (every-BoundSelect (λ x. ⊤) (λ x. ⊤) (λ x. ⊤) (IsPlannableCore tables) (λ x. ⊤) (λ x. ⊤)) (sym same) query'.1))))
  source_rows_case (SourceRows-F.Query query) (SourceRows-F.Table name) e = cc

  source_rows_all : (x : SourceRows-F BoundRows Conjunct SourceRows BoundCore BoundSelect BoundSource) (y : SourceRows-F ((x : BoundRows) × (every-BoundRows (λ x. ⊤) (λ x. ⊤) (λ x. ⊤) (IsPlannableCore tables) (λ x. ⊤) (λ x. ⊤) x → Rows x)) ((x : Conjunct) × (every-Conjunct (λ x. ⊤) (λ x. ⊤) (λ x. ⊤) (IsPlannableCore tables) (λ x. ⊤) (λ x. ⊤) x → Parts x)) ((x : SourceRows) × (every-SourceRows (λ x. ⊤) (λ x. ⊤) (λ x. ⊤) (IsPlannableCore tables) (λ x. ⊤) (λ x. ⊤) x → Reads x)) ((x : BoundCore) × (every-BoundCore (λ x. ⊤) (λ x. ⊤) (λ x. ⊤) (IsPlannableCore tables) (λ x. ⊤) (λ x. ⊤) x → Cores x)) ((x : BoundSelect) × (every-BoundSelect (λ x. ⊤) (λ x. ⊤) (λ x. ⊤) (IsPlannableCore tables) (λ x. ⊤) (λ x. ⊤) x → Selects x)) ((x : BoundSource) × (every-BoundSource (λ x. ⊤) (λ x. ⊤) (λ x. ⊤) (IsPlannableCore tables) (λ x. ⊤) (λ x. ⊤) x → Sources x))) → map-SourceRows ((x : BoundRows) × (every-BoundRows (λ x. ⊤) (λ x. ⊤) (λ x. ⊤) (IsPlannableCore tables) (λ x. ⊤) (λ x. ⊤) x → Rows x)) ((x : Conjunct) × (every-Conjunct (λ x. ⊤) (λ x. ⊤) (λ x. ⊤) (IsPlannableCore tables) (λ x. ⊤) (λ x. ⊤) x → Parts x)) ((x : SourceRows) × (every-SourceRows (λ x. ⊤) (λ x. ⊤) (λ x. ⊤) (IsPlannableCore tables) (λ x. ⊤) (λ x. ⊤) x → Reads x)) ((x : BoundCore) × (every-BoundCore (λ x. ⊤) (λ x. ⊤) (λ x. ⊤) (IsPlannableCore tables) (λ x. ⊤) (λ x. ⊤) x → Cores x)) ((x : BoundSelect) × (every-BoundSelect (λ x. ⊤) (λ x. ⊤) (λ x. ⊤) (IsPlannableCore tables) (λ x. ⊤) (λ x. ⊤) x → Selects x)) ((x : BoundSource) × (every-BoundSource (λ x. ⊤) (λ x. ⊤) (λ x. ⊤) (IsPlannableCore tables) (λ x. ⊤) (λ x. ⊤) x → Sources x)) BoundRows Conjunct SourceRows BoundCore BoundSelect BoundSource (λ e. e.0) (λ e. e.0) (λ e. e.0) (λ e. e.0) (λ e. e.0) (λ e. e.0) y ≡ x → every-SourceRows (λ x. ⊤) (λ x. ⊤) (λ x. ⊤) (IsPlannableCore tables) (λ x. ⊤) (λ x. ⊤) (roll-SourceRows x) → Reads (roll-SourceRows x)
  source_rows_all x y is every =
      let held = every_held-SourceRows (λ x. ⊤) (λ x. ⊤) (λ x. ⊤) (IsPlannableCore tables) (λ x. ⊤) (λ x. ⊤) (roll-SourceRows x) every in
      subst (λ w. Reads (roll-SourceRows w)) is (source_rows_case y held.0 (is ∙ sym (out-roll-SourceRows x) ∙ sym held.1))

  core_case : (y : BoundCore-F ((x : BoundRows) × (every-BoundRows (λ x. ⊤) (λ x. ⊤) (λ x. ⊤) (IsPlannableCore tables) (λ x. ⊤) (λ x. ⊤) x → Rows x)) ((x : Conjunct) × (every-Conjunct (λ x. ⊤) (λ x. ⊤) (λ x. ⊤) (IsPlannableCore tables) (λ x. ⊤) (λ x. ⊤) x → Parts x)) ((x : SourceRows) × (every-SourceRows (λ x. ⊤) (λ x. ⊤) (λ x. ⊤) (IsPlannableCore tables) (λ x. ⊤) (λ x. ⊤) x → Reads x)) ((x : BoundCore) × (every-BoundCore (λ x. ⊤) (λ x. ⊤) (λ x. ⊤) (IsPlannableCore tables) (λ x. ⊤) (λ x. ⊤) x → Cores x)) ((x : BoundSelect) × (every-BoundSelect (λ x. ⊤) (λ x. ⊤) (λ x. ⊤) (IsPlannableCore tables) (λ x. ⊤) (λ x. ⊤) x → Selects x)) ((x : BoundSource) × (every-BoundSource (λ x. ⊤) (λ x. ⊤) (λ x. ⊤) (IsPlannableCore tables) (λ x. ⊤) (λ x. ⊤) x → Sources x))) (z : BoundCore-F ((x : BoundRows) × every-BoundRows (λ x. ⊤) (λ x. ⊤) (λ x. ⊤) (IsPlannableCore tables) (λ x. ⊤) (λ x. ⊤) x) ((x : Conjunct) × every-Conjunct (λ x. ⊤) (λ x. ⊤) (λ x. ⊤) (IsPlannableCore tables) (λ x. ⊤) (λ x. ⊤) x) ((x : SourceRows) × every-SourceRows (λ x. ⊤) (λ x. ⊤) (λ x. ⊤) (IsPlannableCore tables) (λ x. ⊤) (λ x. ⊤) x) ((x : BoundCore) × every-BoundCore (λ x. ⊤) (λ x. ⊤) (λ x. ⊤) (IsPlannableCore tables) (λ x. ⊤) (λ x. ⊤) x) ((x : BoundSelect) × every-BoundSelect (λ x. ⊤) (λ x. ⊤) (λ x. ⊤) (IsPlannableCore tables) (λ x. ⊤) (λ x. ⊤) x) ((x : BoundSource) × every-BoundSource (λ x. ⊤) (λ x. ⊤) (λ x. ⊤) (IsPlannableCore tables) (λ x. ⊤) (λ x. ⊤) x)) → map-BoundCore ((x : BoundRows) × (every-BoundRows (λ x. ⊤) (λ x. ⊤) (λ x. ⊤) (IsPlannableCore tables) (λ x. ⊤) (λ x. ⊤) x → Rows x)) ((x : Conjunct) × (every-Conjunct (λ x. ⊤) (λ x. ⊤) (λ x. ⊤) (IsPlannableCore tables) (λ x. ⊤) (λ x. ⊤) x → Parts x)) ((x : SourceRows) × (every-SourceRows (λ x. ⊤) (λ x. ⊤) (λ x. ⊤) (IsPlannableCore tables) (λ x. ⊤) (λ x. ⊤) x → Reads x)) ((x : BoundCore) × (every-BoundCore (λ x. ⊤) (λ x. ⊤) (λ x. ⊤) (IsPlannableCore tables) (λ x. ⊤) (λ x. ⊤) x → Cores x)) ((x : BoundSelect) × (every-BoundSelect (λ x. ⊤) (λ x. ⊤) (λ x. ⊤) (IsPlannableCore tables) (λ x. ⊤) (λ x. ⊤) x → Selects x)) ((x : BoundSource) × (every-BoundSource (λ x. ⊤) (λ x. ⊤) (λ x. ⊤) (IsPlannableCore tables) (λ x. ⊤) (λ x. ⊤) x → Sources x)) BoundRows Conjunct SourceRows BoundCore BoundSelect BoundSource (λ e. e.0) (λ e. e.0) (λ e. e.0) (λ e. e.0) (λ e. e.0) (λ e. e.0) y ≡ map-BoundCore ((x : BoundRows) × every-BoundRows (λ x. ⊤) (λ x. ⊤) (λ x. ⊤) (IsPlannableCore tables) (λ x. ⊤) (λ x. ⊤) x) ((x : Conjunct) × every-Conjunct (λ x. ⊤) (λ x. ⊤) (λ x. ⊤) (IsPlannableCore tables) (λ x. ⊤) (λ x. ⊤) x) ((x : SourceRows) × every-SourceRows (λ x. ⊤) (λ x. ⊤) (λ x. ⊤) (IsPlannableCore tables) (λ x. ⊤) (λ x. ⊤) x) ((x : BoundCore) × every-BoundCore (λ x. ⊤) (λ x. ⊤) (λ x. ⊤) (IsPlannableCore tables) (λ x. ⊤) (λ x. ⊤) x) ((x : BoundSelect) × every-BoundSelect (λ x. ⊤) (λ x. ⊤) (λ x. ⊤) (IsPlannableCore tables) (λ x. ⊤) (λ x. ⊤) x) ((x : BoundSource) × every-BoundSource (λ x. ⊤) (λ x. ⊤) (λ x. ⊤) (IsPlannableCore tables) (λ x. ⊤) (λ x. ⊤) x) BoundRows Conjunct SourceRows BoundCore BoundSelect BoundSource (λ e. e.0) (λ e. e.0) (λ e. e.0) (λ e. e.0) (λ e. e.0) (λ e. e.0) z → IsPlannableCore tables (map-BoundCore ((x : BoundRows) × (every-BoundRows (λ x. ⊤) (λ x. ⊤) (λ x. ⊤) (IsPlannableCore tables) (λ x. ⊤) (λ x. ⊤) x → Rows x)) ((x : Conjunct) × (every-Conjunct (λ x. ⊤) (λ x. ⊤) (λ x. ⊤) (IsPlannableCore tables) (λ x. ⊤) (λ x. ⊤) x → Parts x)) ((x : SourceRows) × (every-SourceRows (λ x. ⊤) (λ x. ⊤) (λ x. ⊤) (IsPlannableCore tables) (λ x. ⊤) (λ x. ⊤) x → Reads x)) ((x : BoundCore) × (every-BoundCore (λ x. ⊤) (λ x. ⊤) (λ x. ⊤) (IsPlannableCore tables) (λ x. ⊤) (λ x. ⊤) x → Cores x)) ((x : BoundSelect) × (every-BoundSelect (λ x. ⊤) (λ x. ⊤) (λ x. ⊤) (IsPlannableCore tables) (λ x. ⊤) (λ x. ⊤) x → Selects x)) ((x : BoundSource) × (every-BoundSource (λ x. ⊤) (λ x. ⊤) (λ x. ⊤) (IsPlannableCore tables) (λ x. ⊤) (λ x. ⊤) x → Sources x)) BoundRows Conjunct SourceRows BoundCore BoundSelect BoundSource (λ e. e.0) (λ e. e.0) (λ e. e.0) (λ e. e.0) (λ e. e.0) (λ e. e.0) y) → Cores (roll-BoundCore (map-BoundCore ((x : BoundRows) × (every-BoundRows (λ x. ⊤) (λ x. ⊤) (λ x. ⊤) (IsPlannableCore tables) (λ x. ⊤) (λ x. ⊤) x → Rows x)) ((x : Conjunct) × (every-Conjunct (λ x. ⊤) (λ x. ⊤) (λ x. ⊤) (IsPlannableCore tables) (λ x. ⊤) (λ x. ⊤) x → Parts x)) ((x : SourceRows) × (every-SourceRows (λ x. ⊤) (λ x. ⊤) (λ x. ⊤) (IsPlannableCore tables) (λ x. ⊤) (λ x. ⊤) x → Reads x)) ((x : BoundCore) × (every-BoundCore (λ x. ⊤) (λ x. ⊤) (λ x. ⊤) (IsPlannableCore tables) (λ x. ⊤) (λ x. ⊤) x → Cores x)) ((x : BoundSelect) × (every-BoundSelect (λ x. ⊤) (λ x. ⊤) (λ x. ⊤) (IsPlannableCore tables) (λ x. ⊤) (λ x. ⊤) x → Selects x)) ((x : BoundSource) × (every-BoundSource (λ x. ⊤) (λ x. ⊤) (λ x. ⊤) (IsPlannableCore tables) (λ x. ⊤) (λ x. ⊤) x → Sources x)) BoundRows Conjunct SourceRows BoundCore BoundSelect BoundSource (λ e. e.0) (λ e. e.0) (λ e. e.0) (λ e. e.0) (λ e. e.0) (λ e. e.0) y))
  unfolding Rows Parts Reads Cores Selects Sources
  core_case y z e plannable =
      let x = (map-BoundCore ((x : BoundRows) × (every-BoundRows (λ x. ⊤) (λ x. ⊤) (λ x. ⊤) (IsPlannableCore tables) (λ x. ⊤) (λ x. ⊤) x → Rows x)) ((x : Conjunct) × (every-Conjunct (λ x. ⊤) (λ x. ⊤) (λ x. ⊤) (IsPlannableCore tables) (λ x. ⊤) (λ x. ⊤) x → Parts x)) ((x : SourceRows) × (every-SourceRows (λ x. ⊤) (λ x. ⊤) (λ x. ⊤) (IsPlannableCore tables) (λ x. ⊤) (λ x. ⊤) x → Reads x)) ((x : BoundCore) × (every-BoundCore (λ x. ⊤) (λ x. ⊤) (λ x. ⊤) (IsPlannableCore tables) (λ x. ⊤) (λ x. ⊤) x → Cores x)) ((x : BoundSelect) × (every-BoundSelect (λ x. ⊤) (λ x. ⊤) (λ x. ⊤) (IsPlannableCore tables) (λ x. ⊤) (λ x. ⊤) x → Selects x)) ((x : BoundSource) × (every-BoundSource (λ x. ⊤) (λ x. ⊤) (λ x. ⊤) (IsPlannableCore tables) (λ x. ⊤) (λ x. ⊤) x → Sources x)) BoundRows Conjunct SourceRows BoundCore BoundSelect BoundSource (λ e. e.0) (λ e. e.0) (λ e. e.0) (λ e. e.0) (λ e. e.0) (λ e. e.0) y) in
      let sources = x.sources in
      let conjuncts = x.conjuncts in
      let all_sources = zip-all (every-BoundSource (λ x. ⊤) (λ x. ⊤) (λ x. ⊤) (IsPlannableCore tables) (λ x. ⊤) (λ x. ⊤)) Sources y.sources z.sources (ap (λ (c : BoundCore-F BoundRows Conjunct SourceRows BoundCore BoundSelect BoundSource). c.sources) e) in
      let all_conjuncts = zip-all (every-Conjunct (λ x. ⊤) (λ x. ⊤) (λ x. ⊤) (IsPlannableCore tables) (λ x. ⊤) (λ x. ⊤)) Parts y.conjuncts z.conjuncts (ap (λ (c : BoundCore-F BoundRows Conjunct SourceRows BoundCore BoundSelect BoundSource). c.conjuncts) e) in
      let plains = plains-within (columns_of_sources sources) conjuncts plannable.1 in
      let planned = core-planned tables counts (map (plan_of_source counts) sources) (map (plan_of_conjunct counts) conjuncts) x.grouping x.items x.distinct
      (sound-sources 0 sources plannable.0 all_sources) plains.0 (subst (λ n. AllByRecursion (λ (e : Expr). top e ≤ n) (plain_conjuncts (map (plan_of_conjunct counts) conjuncts))) (sym (columns-planned sources)) plains.1) in
      let meant = same-core (means_of tables (map (plan_of_conjunct counts) conjuncts)) (map (conjunct_meaning tables) conjuncts) (map (planned_source tables) (map (plan_of_source counts) sources)) (map (source_meaning tables) sources)
      x.grouping x.items x.distinct (same-conjuncts conjuncts all_conjuncts) (same-sources sources all_sources) in
      subst (λ c. IsSame (plan_core_meaning tables c) (core_meaning tables (roll-BoundCore x))) (sym (core-plan x))
      (subst (λ f. IsSame (plan_core_meaning tables (planned_core counts (map (plan_of_source counts) sources) (map (plan_of_conjunct counts) conjuncts) x.grouping x.items x.distinct)) f) (sym (core-out tables x))
      (same-trans (plan_core_meaning tables (planned_core counts (map (plan_of_source counts) sources) (map (plan_of_conjunct counts) conjuncts) x.grouping x.items x.distinct))
      (selected (core_of (means_of tables (map (plan_of_conjunct counts) conjuncts)) x.grouping x.items x.distinct) (map (planned_source tables) (map (plan_of_source counts) sources)))
      (core_from tables x) planned meant))

  core_all : (x : BoundCore-F BoundRows Conjunct SourceRows BoundCore BoundSelect BoundSource) (y : BoundCore-F ((x : BoundRows) × (every-BoundRows (λ x. ⊤) (λ x. ⊤) (λ x. ⊤) (IsPlannableCore tables) (λ x. ⊤) (λ x. ⊤) x → Rows x)) ((x : Conjunct) × (every-Conjunct (λ x. ⊤) (λ x. ⊤) (λ x. ⊤) (IsPlannableCore tables) (λ x. ⊤) (λ x. ⊤) x → Parts x)) ((x : SourceRows) × (every-SourceRows (λ x. ⊤) (λ x. ⊤) (λ x. ⊤) (IsPlannableCore tables) (λ x. ⊤) (λ x. ⊤) x → Reads x)) ((x : BoundCore) × (every-BoundCore (λ x. ⊤) (λ x. ⊤) (λ x. ⊤) (IsPlannableCore tables) (λ x. ⊤) (λ x. ⊤) x → Cores x)) ((x : BoundSelect) × (every-BoundSelect (λ x. ⊤) (λ x. ⊤) (λ x. ⊤) (IsPlannableCore tables) (λ x. ⊤) (λ x. ⊤) x → Selects x)) ((x : BoundSource) × (every-BoundSource (λ x. ⊤) (λ x. ⊤) (λ x. ⊤) (IsPlannableCore tables) (λ x. ⊤) (λ x. ⊤) x → Sources x))) → map-BoundCore ((x : BoundRows) × (every-BoundRows (λ x. ⊤) (λ x. ⊤) (λ x. ⊤) (IsPlannableCore tables) (λ x. ⊤) (λ x. ⊤) x → Rows x)) ((x : Conjunct) × (every-Conjunct (λ x. ⊤) (λ x. ⊤) (λ x. ⊤) (IsPlannableCore tables) (λ x. ⊤) (λ x. ⊤) x → Parts x)) ((x : SourceRows) × (every-SourceRows (λ x. ⊤) (λ x. ⊤) (λ x. ⊤) (IsPlannableCore tables) (λ x. ⊤) (λ x. ⊤) x → Reads x)) ((x : BoundCore) × (every-BoundCore (λ x. ⊤) (λ x. ⊤) (λ x. ⊤) (IsPlannableCore tables) (λ x. ⊤) (λ x. ⊤) x → Cores x)) ((x : BoundSelect) × (every-BoundSelect (λ x. ⊤) (λ x. ⊤) (λ x. ⊤) (IsPlannableCore tables) (λ x. ⊤) (λ x. ⊤) x → Selects x)) ((x : BoundSource) × (every-BoundSource (λ x. ⊤) (λ x. ⊤) (λ x. ⊤) (IsPlannableCore tables) (λ x. ⊤) (λ x. ⊤) x → Sources x)) BoundRows Conjunct SourceRows BoundCore BoundSelect BoundSource (λ e. e.0) (λ e. e.0) (λ e. e.0) (λ e. e.0) (λ e. e.0) (λ e. e.0) y ≡ x → every-BoundCore (λ x. ⊤) (λ x. ⊤) (λ x. ⊤) (IsPlannableCore tables) (λ x. ⊤) (λ x. ⊤) (roll-BoundCore x) → Cores (roll-BoundCore x)
  core_all x y is every =
      let held = every_held-BoundCore (λ x. ⊤) (λ x. ⊤) (λ x. ⊤) (IsPlannableCore tables) (λ x. ⊤) (λ x. ⊤) (roll-BoundCore x) every in
      subst (λ w. Cores (roll-BoundCore w)) is (core_case y held.0 (is ∙ sym (out-roll-BoundCore x) ∙ sym held.1) (subst (IsPlannableCore tables) (out-roll-BoundCore x ∙ sym is) (every_here-BoundCore (λ x. ⊤) (λ x. ⊤) (λ x. ⊤) (IsPlannableCore tables) (λ x. ⊤) (λ x. ⊤) (roll-BoundCore x) every)))

  select_case : (y : BoundSelect-F ((x : BoundRows) × (every-BoundRows (λ x. ⊤) (λ x. ⊤) (λ x. ⊤) (IsPlannableCore tables) (λ x. ⊤) (λ x. ⊤) x → Rows x)) ((x : Conjunct) × (every-Conjunct (λ x. ⊤) (λ x. ⊤) (λ x. ⊤) (IsPlannableCore tables) (λ x. ⊤) (λ x. ⊤) x → Parts x)) ((x : SourceRows) × (every-SourceRows (λ x. ⊤) (λ x. ⊤) (λ x. ⊤) (IsPlannableCore tables) (λ x. ⊤) (λ x. ⊤) x → Reads x)) ((x : BoundCore) × (every-BoundCore (λ x. ⊤) (λ x. ⊤) (λ x. ⊤) (IsPlannableCore tables) (λ x. ⊤) (λ x. ⊤) x → Cores x)) ((x : BoundSelect) × (every-BoundSelect (λ x. ⊤) (λ x. ⊤) (λ x. ⊤) (IsPlannableCore tables) (λ x. ⊤) (λ x. ⊤) x → Selects x)) ((x : BoundSource) × (every-BoundSource (λ x. ⊤) (λ x. ⊤) (λ x. ⊤) (IsPlannableCore tables) (λ x. ⊤) (λ x. ⊤) x → Sources x))) (z : BoundSelect-F ((x : BoundRows) × every-BoundRows (λ x. ⊤) (λ x. ⊤) (λ x. ⊤) (IsPlannableCore tables) (λ x. ⊤) (λ x. ⊤) x) ((x : Conjunct) × every-Conjunct (λ x. ⊤) (λ x. ⊤) (λ x. ⊤) (IsPlannableCore tables) (λ x. ⊤) (λ x. ⊤) x) ((x : SourceRows) × every-SourceRows (λ x. ⊤) (λ x. ⊤) (λ x. ⊤) (IsPlannableCore tables) (λ x. ⊤) (λ x. ⊤) x) ((x : BoundCore) × every-BoundCore (λ x. ⊤) (λ x. ⊤) (λ x. ⊤) (IsPlannableCore tables) (λ x. ⊤) (λ x. ⊤) x) ((x : BoundSelect) × every-BoundSelect (λ x. ⊤) (λ x. ⊤) (λ x. ⊤) (IsPlannableCore tables) (λ x. ⊤) (λ x. ⊤) x) ((x : BoundSource) × every-BoundSource (λ x. ⊤) (λ x. ⊤) (λ x. ⊤) (IsPlannableCore tables) (λ x. ⊤) (λ x. ⊤) x)) → map-BoundSelect ((x : BoundRows) × (every-BoundRows (λ x. ⊤) (λ x. ⊤) (λ x. ⊤) (IsPlannableCore tables) (λ x. ⊤) (λ x. ⊤) x → Rows x)) ((x : Conjunct) × (every-Conjunct (λ x. ⊤) (λ x. ⊤) (λ x. ⊤) (IsPlannableCore tables) (λ x. ⊤) (λ x. ⊤) x → Parts x)) ((x : SourceRows) × (every-SourceRows (λ x. ⊤) (λ x. ⊤) (λ x. ⊤) (IsPlannableCore tables) (λ x. ⊤) (λ x. ⊤) x → Reads x)) ((x : BoundCore) × (every-BoundCore (λ x. ⊤) (λ x. ⊤) (λ x. ⊤) (IsPlannableCore tables) (λ x. ⊤) (λ x. ⊤) x → Cores x)) ((x : BoundSelect) × (every-BoundSelect (λ x. ⊤) (λ x. ⊤) (λ x. ⊤) (IsPlannableCore tables) (λ x. ⊤) (λ x. ⊤) x → Selects x)) ((x : BoundSource) × (every-BoundSource (λ x. ⊤) (λ x. ⊤) (λ x. ⊤) (IsPlannableCore tables) (λ x. ⊤) (λ x. ⊤) x → Sources x)) BoundRows Conjunct SourceRows BoundCore BoundSelect BoundSource (λ e. e.0) (λ e. e.0) (λ e. e.0) (λ e. e.0) (λ e. e.0) (λ e. e.0) y ≡ map-BoundSelect ((x : BoundRows) × every-BoundRows (λ x. ⊤) (λ x. ⊤) (λ x. ⊤) (IsPlannableCore tables) (λ x. ⊤) (λ x. ⊤) x) ((x : Conjunct) × every-Conjunct (λ x. ⊤) (λ x. ⊤) (λ x. ⊤) (IsPlannableCore tables) (λ x. ⊤) (λ x. ⊤) x) ((x : SourceRows) × every-SourceRows (λ x. ⊤) (λ x. ⊤) (λ x. ⊤) (IsPlannableCore tables) (λ x. ⊤) (λ x. ⊤) x) ((x : BoundCore) × every-BoundCore (λ x. ⊤) (λ x. ⊤) (λ x. ⊤) (IsPlannableCore tables) (λ x. ⊤) (λ x. ⊤) x) ((x : BoundSelect) × every-BoundSelect (λ x. ⊤) (λ x. ⊤) (λ x. ⊤) (IsPlannableCore tables) (λ x. ⊤) (λ x. ⊤) x) ((x : BoundSource) × every-BoundSource (λ x. ⊤) (λ x. ⊤) (λ x. ⊤) (IsPlannableCore tables) (λ x. ⊤) (λ x. ⊤) x) BoundRows Conjunct SourceRows BoundCore BoundSelect BoundSource (λ e. e.0) (λ e. e.0) (λ e. e.0) (λ e. e.0) (λ e. e.0) (λ e. e.0) z → Selects (roll-BoundSelect (map-BoundSelect ((x : BoundRows) × (every-BoundRows (λ x. ⊤) (λ x. ⊤) (λ x. ⊤) (IsPlannableCore tables) (λ x. ⊤) (λ x. ⊤) x → Rows x)) ((x : Conjunct) × (every-Conjunct (λ x. ⊤) (λ x. ⊤) (λ x. ⊤) (IsPlannableCore tables) (λ x. ⊤) (λ x. ⊤) x → Parts x)) ((x : SourceRows) × (every-SourceRows (λ x. ⊤) (λ x. ⊤) (λ x. ⊤) (IsPlannableCore tables) (λ x. ⊤) (λ x. ⊤) x → Reads x)) ((x : BoundCore) × (every-BoundCore (λ x. ⊤) (λ x. ⊤) (λ x. ⊤) (IsPlannableCore tables) (λ x. ⊤) (λ x. ⊤) x → Cores x)) ((x : BoundSelect) × (every-BoundSelect (λ x. ⊤) (λ x. ⊤) (λ x. ⊤) (IsPlannableCore tables) (λ x. ⊤) (λ x. ⊤) x → Selects x)) ((x : BoundSource) × (every-BoundSource (λ x. ⊤) (λ x. ⊤) (λ x. ⊤) (IsPlannableCore tables) (λ x. ⊤) (λ x. ⊤) x → Sources x)) BoundRows Conjunct SourceRows BoundCore BoundSelect BoundSource (λ e. e.0) (λ e. e.0) (λ e. e.0) (λ e. e.0) (λ e. e.0) (λ e. e.0) y))
  unfolding Rows Parts Reads Cores Selects Sources
  select_case y z e =
      let x = (map-BoundSelect ((x : BoundRows) × (every-BoundRows (λ x. ⊤) (λ x. ⊤) (λ x. ⊤) (IsPlannableCore tables) (λ x. ⊤) (λ x. ⊤) x → Rows x)) ((x : Conjunct) × (every-Conjunct (λ x. ⊤) (λ x. ⊤) (λ x. ⊤) (IsPlannableCore tables) (λ x. ⊤) (λ x. ⊤) x → Parts x)) ((x : SourceRows) × (every-SourceRows (λ x. ⊤) (λ x. ⊤) (λ x. ⊤) (IsPlannableCore tables) (λ x. ⊤) (λ x. ⊤) x → Reads x)) ((x : BoundCore) × (every-BoundCore (λ x. ⊤) (λ x. ⊤) (λ x. ⊤) (IsPlannableCore tables) (λ x. ⊤) (λ x. ⊤) x → Cores x)) ((x : BoundSelect) × (every-BoundSelect (λ x. ⊤) (λ x. ⊤) (λ x. ⊤) (IsPlannableCore tables) (λ x. ⊤) (λ x. ⊤) x → Selects x)) ((x : BoundSource) × (every-BoundSource (λ x. ⊤) (λ x. ⊤) (λ x. ⊤) (IsPlannableCore tables) (λ x. ⊤) (λ x. ⊤) x → Sources x)) BoundRows Conjunct SourceRows BoundCore BoundSelect BoundSource (λ e. e.0) (λ e. e.0) (λ e. e.0) (λ e. e.0) (λ e. e.0) (λ e. e.0) y) in
      let same : y.rows.0 ≡ z.rows.0 = ap (λ (c : BoundSelect-F BoundRows Conjunct SourceRows BoundCore BoundSelect BoundSource). c.rows) e in
      let rows = y.rows.1 (subst (every-BoundRows (λ x. ⊤) (λ x. ⊤) (λ x. ⊤) (IsPlannableCore tables) (λ x. ⊤) (λ x. ⊤)) (sym same) z.rows.1) in
      subst (λ c. IsSame (plan_meaning tables c) (select_meaning tables (roll-BoundSelect x))) (sym (select-plan x))
      (subst (λ f. IsSame f (select_meaning tables (roll-BoundSelect x))) (sym (fold-roll-PlanSelect Meant (Found Row) (Found Row) (Found Row) (Found Row) Staged plan_conjunct_meant (input_found tables) plan_rows_found plan_core_found plan_select_found staged (record { rows = plan_of_rows counts y.rows.0; columns = y.columns; cut = y.cut })))
      (subst (λ f. IsSame (cut_found (cut_of y.cut) (plan_rows_meaning tables (plan_of_rows counts y.rows.0))) f) (sym (select-out tables x))
      (agreed-same (cut_of y.cut) (cut_found (cut_of y.cut) (plan_rows_meaning tables (plan_of_rows counts y.rows.0))) (cut_found (cut_of y.cut) (rows_meaning tables y.rows.0))
      (cut-same (cut_of y.cut) (plan_rows_meaning tables (plan_of_rows counts y.rows.0)) (rows_meaning tables y.rows.0) rows))))

  select_all : (x : BoundSelect-F BoundRows Conjunct SourceRows BoundCore BoundSelect BoundSource) (y : BoundSelect-F ((x : BoundRows) × (every-BoundRows (λ x. ⊤) (λ x. ⊤) (λ x. ⊤) (IsPlannableCore tables) (λ x. ⊤) (λ x. ⊤) x → Rows x)) ((x : Conjunct) × (every-Conjunct (λ x. ⊤) (λ x. ⊤) (λ x. ⊤) (IsPlannableCore tables) (λ x. ⊤) (λ x. ⊤) x → Parts x)) ((x : SourceRows) × (every-SourceRows (λ x. ⊤) (λ x. ⊤) (λ x. ⊤) (IsPlannableCore tables) (λ x. ⊤) (λ x. ⊤) x → Reads x)) ((x : BoundCore) × (every-BoundCore (λ x. ⊤) (λ x. ⊤) (λ x. ⊤) (IsPlannableCore tables) (λ x. ⊤) (λ x. ⊤) x → Cores x)) ((x : BoundSelect) × (every-BoundSelect (λ x. ⊤) (λ x. ⊤) (λ x. ⊤) (IsPlannableCore tables) (λ x. ⊤) (λ x. ⊤) x → Selects x)) ((x : BoundSource) × (every-BoundSource (λ x. ⊤) (λ x. ⊤) (λ x. ⊤) (IsPlannableCore tables) (λ x. ⊤) (λ x. ⊤) x → Sources x))) → map-BoundSelect ((x : BoundRows) × (every-BoundRows (λ x. ⊤) (λ x. ⊤) (λ x. ⊤) (IsPlannableCore tables) (λ x. ⊤) (λ x. ⊤) x → Rows x)) ((x : Conjunct) × (every-Conjunct (λ x. ⊤) (λ x. ⊤) (λ x. ⊤) (IsPlannableCore tables) (λ x. ⊤) (λ x. ⊤) x → Parts x)) ((x : SourceRows) × (every-SourceRows (λ x. ⊤) (λ x. ⊤) (λ x. ⊤) (IsPlannableCore tables) (λ x. ⊤) (λ x. ⊤) x → Reads x)) ((x : BoundCore) × (every-BoundCore (λ x. ⊤) (λ x. ⊤) (λ x. ⊤) (IsPlannableCore tables) (λ x. ⊤) (λ x. ⊤) x → Cores x)) ((x : BoundSelect) × (every-BoundSelect (λ x. ⊤) (λ x. ⊤) (λ x. ⊤) (IsPlannableCore tables) (λ x. ⊤) (λ x. ⊤) x → Selects x)) ((x : BoundSource) × (every-BoundSource (λ x. ⊤) (λ x. ⊤) (λ x. ⊤) (IsPlannableCore tables) (λ x. ⊤) (λ x. ⊤) x → Sources x)) BoundRows Conjunct SourceRows BoundCore BoundSelect BoundSource (λ e. e.0) (λ e. e.0) (λ e. e.0) (λ e. e.0) (λ e. e.0) (λ e. e.0) y ≡ x → every-BoundSelect (λ x. ⊤) (λ x. ⊤) (λ x. ⊤) (IsPlannableCore tables) (λ x. ⊤) (λ x. ⊤) (roll-BoundSelect x) → Selects (roll-BoundSelect x)
  select_all x y is every =
      let held = every_held-BoundSelect (λ x. ⊤) (λ x. ⊤) (λ x. ⊤) (IsPlannableCore tables) (λ x. ⊤) (λ x. ⊤) (roll-BoundSelect x) every in
      subst (λ w. Selects (roll-BoundSelect w)) is (select_case y held.0 (is ∙ sym (out-roll-BoundSelect x) ∙ sym held.1))

  source_case : (y : BoundSource-F ((x : BoundRows) × (every-BoundRows (λ x. ⊤) (λ x. ⊤) (λ x. ⊤) (IsPlannableCore tables) (λ x. ⊤) (λ x. ⊤) x → Rows x)) ((x : Conjunct) × (every-Conjunct (λ x. ⊤) (λ x. ⊤) (λ x. ⊤) (IsPlannableCore tables) (λ x. ⊤) (λ x. ⊤) x → Parts x)) ((x : SourceRows) × (every-SourceRows (λ x. ⊤) (λ x. ⊤) (λ x. ⊤) (IsPlannableCore tables) (λ x. ⊤) (λ x. ⊤) x → Reads x)) ((x : BoundCore) × (every-BoundCore (λ x. ⊤) (λ x. ⊤) (λ x. ⊤) (IsPlannableCore tables) (λ x. ⊤) (λ x. ⊤) x → Cores x)) ((x : BoundSelect) × (every-BoundSelect (λ x. ⊤) (λ x. ⊤) (λ x. ⊤) (IsPlannableCore tables) (λ x. ⊤) (λ x. ⊤) x → Selects x)) ((x : BoundSource) × (every-BoundSource (λ x. ⊤) (λ x. ⊤) (λ x. ⊤) (IsPlannableCore tables) (λ x. ⊤) (λ x. ⊤) x → Sources x))) (z : BoundSource-F ((x : BoundRows) × every-BoundRows (λ x. ⊤) (λ x. ⊤) (λ x. ⊤) (IsPlannableCore tables) (λ x. ⊤) (λ x. ⊤) x) ((x : Conjunct) × every-Conjunct (λ x. ⊤) (λ x. ⊤) (λ x. ⊤) (IsPlannableCore tables) (λ x. ⊤) (λ x. ⊤) x) ((x : SourceRows) × every-SourceRows (λ x. ⊤) (λ x. ⊤) (λ x. ⊤) (IsPlannableCore tables) (λ x. ⊤) (λ x. ⊤) x) ((x : BoundCore) × every-BoundCore (λ x. ⊤) (λ x. ⊤) (λ x. ⊤) (IsPlannableCore tables) (λ x. ⊤) (λ x. ⊤) x) ((x : BoundSelect) × every-BoundSelect (λ x. ⊤) (λ x. ⊤) (λ x. ⊤) (IsPlannableCore tables) (λ x. ⊤) (λ x. ⊤) x) ((x : BoundSource) × every-BoundSource (λ x. ⊤) (λ x. ⊤) (λ x. ⊤) (IsPlannableCore tables) (λ x. ⊤) (λ x. ⊤) x)) → map-BoundSource ((x : BoundRows) × (every-BoundRows (λ x. ⊤) (λ x. ⊤) (λ x. ⊤) (IsPlannableCore tables) (λ x. ⊤) (λ x. ⊤) x → Rows x)) ((x : Conjunct) × (every-Conjunct (λ x. ⊤) (λ x. ⊤) (λ x. ⊤) (IsPlannableCore tables) (λ x. ⊤) (λ x. ⊤) x → Parts x)) ((x : SourceRows) × (every-SourceRows (λ x. ⊤) (λ x. ⊤) (λ x. ⊤) (IsPlannableCore tables) (λ x. ⊤) (λ x. ⊤) x → Reads x)) ((x : BoundCore) × (every-BoundCore (λ x. ⊤) (λ x. ⊤) (λ x. ⊤) (IsPlannableCore tables) (λ x. ⊤) (λ x. ⊤) x → Cores x)) ((x : BoundSelect) × (every-BoundSelect (λ x. ⊤) (λ x. ⊤) (λ x. ⊤) (IsPlannableCore tables) (λ x. ⊤) (λ x. ⊤) x → Selects x)) ((x : BoundSource) × (every-BoundSource (λ x. ⊤) (λ x. ⊤) (λ x. ⊤) (IsPlannableCore tables) (λ x. ⊤) (λ x. ⊤) x → Sources x)) BoundRows Conjunct SourceRows BoundCore BoundSelect BoundSource (λ e. e.0) (λ e. e.0) (λ e. e.0) (λ e. e.0) (λ e. e.0) (λ e. e.0) y ≡ map-BoundSource ((x : BoundRows) × every-BoundRows (λ x. ⊤) (λ x. ⊤) (λ x. ⊤) (IsPlannableCore tables) (λ x. ⊤) (λ x. ⊤) x) ((x : Conjunct) × every-Conjunct (λ x. ⊤) (λ x. ⊤) (λ x. ⊤) (IsPlannableCore tables) (λ x. ⊤) (λ x. ⊤) x) ((x : SourceRows) × every-SourceRows (λ x. ⊤) (λ x. ⊤) (λ x. ⊤) (IsPlannableCore tables) (λ x. ⊤) (λ x. ⊤) x) ((x : BoundCore) × every-BoundCore (λ x. ⊤) (λ x. ⊤) (λ x. ⊤) (IsPlannableCore tables) (λ x. ⊤) (λ x. ⊤) x) ((x : BoundSelect) × every-BoundSelect (λ x. ⊤) (λ x. ⊤) (λ x. ⊤) (IsPlannableCore tables) (λ x. ⊤) (λ x. ⊤) x) ((x : BoundSource) × every-BoundSource (λ x. ⊤) (λ x. ⊤) (λ x. ⊤) (IsPlannableCore tables) (λ x. ⊤) (λ x. ⊤) x) BoundRows Conjunct SourceRows BoundCore BoundSelect BoundSource (λ e. e.0) (λ e. e.0) (λ e. e.0) (λ e. e.0) (λ e. e.0) (λ e. e.0) z → Sources (roll-BoundSource (map-BoundSource ((x : BoundRows) × (every-BoundRows (λ x. ⊤) (λ x. ⊤) (λ x. ⊤) (IsPlannableCore tables) (λ x. ⊤) (λ x. ⊤) x → Rows x)) ((x : Conjunct) × (every-Conjunct (λ x. ⊤) (λ x. ⊤) (λ x. ⊤) (IsPlannableCore tables) (λ x. ⊤) (λ x. ⊤) x → Parts x)) ((x : SourceRows) × (every-SourceRows (λ x. ⊤) (λ x. ⊤) (λ x. ⊤) (IsPlannableCore tables) (λ x. ⊤) (λ x. ⊤) x → Reads x)) ((x : BoundCore) × (every-BoundCore (λ x. ⊤) (λ x. ⊤) (λ x. ⊤) (IsPlannableCore tables) (λ x. ⊤) (λ x. ⊤) x → Cores x)) ((x : BoundSelect) × (every-BoundSelect (λ x. ⊤) (λ x. ⊤) (λ x. ⊤) (IsPlannableCore tables) (λ x. ⊤) (λ x. ⊤) x → Selects x)) ((x : BoundSource) × (every-BoundSource (λ x. ⊤) (λ x. ⊤) (λ x. ⊤) (IsPlannableCore tables) (λ x. ⊤) (λ x. ⊤) x → Sources x)) BoundRows Conjunct SourceRows BoundCore BoundSelect BoundSource (λ e. e.0) (λ e. e.0) (λ e. e.0) (λ e. e.0) (λ e. e.0) (λ e. e.0) y))
  unfolding Rows Parts Reads Cores Selects Sources
  source_case y z e =
      let x = (map-BoundSource ((x : BoundRows) × (every-BoundRows (λ x. ⊤) (λ x. ⊤) (λ x. ⊤) (IsPlannableCore tables) (λ x. ⊤) (λ x. ⊤) x → Rows x)) ((x : Conjunct) × (every-Conjunct (λ x. ⊤) (λ x. ⊤) (λ x. ⊤) (IsPlannableCore tables) (λ x. ⊤) (λ x. ⊤) x → Parts x)) ((x : SourceRows) × (every-SourceRows (λ x. ⊤) (λ x. ⊤) (λ x. ⊤) (IsPlannableCore tables) (λ x. ⊤) (λ x. ⊤) x → Reads x)) ((x : BoundCore) × (every-BoundCore (λ x. ⊤) (λ x. ⊤) (λ x. ⊤) (IsPlannableCore tables) (λ x. ⊤) (λ x. ⊤) x → Cores x)) ((x : BoundSelect) × (every-BoundSelect (λ x. ⊤) (λ x. ⊤) (λ x. ⊤) (IsPlannableCore tables) (λ x. ⊤) (λ x. ⊤) x → Selects x)) ((x : BoundSource) × (every-BoundSource (λ x. ⊤) (λ x. ⊤) (λ x. ⊤) (IsPlannableCore tables) (λ x. ⊤) (λ x. ⊤) x → Sources x)) BoundRows Conjunct SourceRows BoundCore BoundSelect BoundSource (λ e. e.0) (λ e. e.0) (λ e. e.0) (λ e. e.0) (λ e. e.0) (λ e. e.0) y) in
      let same : y.rows.0 ≡ z.rows.0 = ap (λ (c : BoundSource-F BoundRows Conjunct SourceRows BoundCore BoundSelect BoundSource). c.rows) e in
      let rows = y.rows.1 (subst (every-SourceRows (λ x. ⊤) (λ x. ⊤) (λ x. ⊤) (IsPlannableCore tables) (λ x. ⊤) (λ x. ⊤)) (sym same) z.rows.1) in
      subst (λ (p : SourcePlan). IsSame (plan_input_meaning tables p.input) (source_meaning tables (roll-BoundSource x)).found) (sym (source-plan x))
      (subst (λ (s : Source). IsSame (plan_input_meaning tables (plan_of_input counts y.rows.0)) s.found) (sym (source-out tables x)) rows)

  source_all : (x : BoundSource-F BoundRows Conjunct SourceRows BoundCore BoundSelect BoundSource) (y : BoundSource-F ((x : BoundRows) × (every-BoundRows (λ x. ⊤) (λ x. ⊤) (λ x. ⊤) (IsPlannableCore tables) (λ x. ⊤) (λ x. ⊤) x → Rows x)) ((x : Conjunct) × (every-Conjunct (λ x. ⊤) (λ x. ⊤) (λ x. ⊤) (IsPlannableCore tables) (λ x. ⊤) (λ x. ⊤) x → Parts x)) ((x : SourceRows) × (every-SourceRows (λ x. ⊤) (λ x. ⊤) (λ x. ⊤) (IsPlannableCore tables) (λ x. ⊤) (λ x. ⊤) x → Reads x)) ((x : BoundCore) × (every-BoundCore (λ x. ⊤) (λ x. ⊤) (λ x. ⊤) (IsPlannableCore tables) (λ x. ⊤) (λ x. ⊤) x → Cores x)) ((x : BoundSelect) × (every-BoundSelect (λ x. ⊤) (λ x. ⊤) (λ x. ⊤) (IsPlannableCore tables) (λ x. ⊤) (λ x. ⊤) x → Selects x)) ((x : BoundSource) × (every-BoundSource (λ x. ⊤) (λ x. ⊤) (λ x. ⊤) (IsPlannableCore tables) (λ x. ⊤) (λ x. ⊤) x → Sources x))) → map-BoundSource ((x : BoundRows) × (every-BoundRows (λ x. ⊤) (λ x. ⊤) (λ x. ⊤) (IsPlannableCore tables) (λ x. ⊤) (λ x. ⊤) x → Rows x)) ((x : Conjunct) × (every-Conjunct (λ x. ⊤) (λ x. ⊤) (λ x. ⊤) (IsPlannableCore tables) (λ x. ⊤) (λ x. ⊤) x → Parts x)) ((x : SourceRows) × (every-SourceRows (λ x. ⊤) (λ x. ⊤) (λ x. ⊤) (IsPlannableCore tables) (λ x. ⊤) (λ x. ⊤) x → Reads x)) ((x : BoundCore) × (every-BoundCore (λ x. ⊤) (λ x. ⊤) (λ x. ⊤) (IsPlannableCore tables) (λ x. ⊤) (λ x. ⊤) x → Cores x)) ((x : BoundSelect) × (every-BoundSelect (λ x. ⊤) (λ x. ⊤) (λ x. ⊤) (IsPlannableCore tables) (λ x. ⊤) (λ x. ⊤) x → Selects x)) ((x : BoundSource) × (every-BoundSource (λ x. ⊤) (λ x. ⊤) (λ x. ⊤) (IsPlannableCore tables) (λ x. ⊤) (λ x. ⊤) x → Sources x)) BoundRows Conjunct SourceRows BoundCore BoundSelect BoundSource (λ e. e.0) (λ e. e.0) (λ e. e.0) (λ e. e.0) (λ e. e.0) (λ e. e.0) y ≡ x → every-BoundSource (λ x. ⊤) (λ x. ⊤) (λ x. ⊤) (IsPlannableCore tables) (λ x. ⊤) (λ x. ⊤) (roll-BoundSource x) → Sources (roll-BoundSource x)
  source_all x y is every =
      let held = every_held-BoundSource (λ x. ⊤) (λ x. ⊤) (λ x. ⊤) (IsPlannableCore tables) (λ x. ⊤) (λ x. ⊤) (roll-BoundSource x) every in
      subst (λ w. Sources (roll-BoundSource w)) is (source_case y held.0 (is ∙ sym (out-roll-BoundSource x) ∙ sym held.1))

  plan-rows-mean : (rows : BoundRows) → every-BoundRows (λ x. ⊤) (λ x. ⊤) (λ x. ⊤) (IsPlannableCore tables) (λ x. ⊤) (λ x. ⊤) rows → Rows rows
  plan-rows-mean = ind-BoundRows (λ x. every-BoundRows (λ x. ⊤) (λ x. ⊤) (λ x. ⊤) (IsPlannableCore tables) (λ x. ⊤) (λ x. ⊤) x → Rows x) (λ x. every-Conjunct (λ x. ⊤) (λ x. ⊤) (λ x. ⊤) (IsPlannableCore tables) (λ x. ⊤) (λ x. ⊤) x → Parts x) (λ x. every-SourceRows (λ x. ⊤) (λ x. ⊤) (λ x. ⊤) (IsPlannableCore tables) (λ x. ⊤) (λ x. ⊤) x → Reads x) (λ x. every-BoundCore (λ x. ⊤) (λ x. ⊤) (λ x. ⊤) (IsPlannableCore tables) (λ x. ⊤) (λ x. ⊤) x → Cores x) (λ x. every-BoundSelect (λ x. ⊤) (λ x. ⊤) (λ x. ⊤) (IsPlannableCore tables) (λ x. ⊤) (λ x. ⊤) x → Selects x) (λ x. every-BoundSource (λ x. ⊤) (λ x. ⊤) (λ x. ⊤) (IsPlannableCore tables) (λ x. ⊤) (λ x. ⊤) x → Sources x) rows_all conjunct_all source_rows_all core_all select_all source_all

  -- The plan of a SELECT gives the same bag and the same faults as the SELECT, and under ORDER BY, LIMIT or OFFSET the
  -- same list.
  pub plan-means : (select : BoundSelect) → every-BoundSelect (λ x. ⊤) (λ x. ⊤) (λ x. ⊤) (IsPlannableCore tables) (λ x. ⊤) (λ x. ⊤) select → Agrees (cut_of (out-BoundSelect select).cut) (plan_meaning tables (plan_of_select counts select)) (select_meaning tables select)
  unfolding Rows Parts Reads Cores Selects Sources
  plan-means select every =
      let held = every_held-BoundSelect (λ x. ⊤) (λ x. ⊤) (λ x. ⊤) (IsPlannableCore tables) (λ x. ⊤) (λ x. ⊤) select every in
      let x = out-BoundSelect select in
      let cut = cut_of x.cut in
      let rows = plan-rows-mean x.rows (subst (every-BoundRows (λ x. ⊤) (λ x. ⊤) (λ x. ⊤) (IsPlannableCore tables) (λ x. ⊤) (λ x. ⊤)) (ap (λ (c : BoundSelect-F BoundRows Conjunct SourceRows BoundCore BoundSelect BoundSource). c.rows) held.1) held.0.rows.1) in
      let planned : plan_meaning tables (plan_of_select counts select) ≡ cut_found cut (plan_rows_meaning tables (plan_of_rows counts x.rows)) =
      ap (plan_meaning tables) (fold_out-BoundSelect PlanRows PlanConjunct PlanInput PlanCore PlanSelect SourcePlan plan_rows_step plan_conjunct_step plan_input_step (plan_core_step counts) plan_select_step plan_source_step select)
      ∙ fold-roll-PlanSelect Meant (Found Row) (Found Row) (Found Row) (Found Row) Staged plan_conjunct_meant (input_found tables) plan_rows_found plan_core_found plan_select_found staged (record { rows = plan_of_rows counts x.rows; columns = x.columns; cut = x.cut }) in
      subst (λ f. Agrees cut f (select_meaning tables select)) (sym planned)
      (subst (λ f. Agrees cut (cut_found cut (plan_rows_meaning tables (plan_of_rows counts x.rows))) f) (sym (select-is tables select))
      (cut-same cut (plan_rows_meaning tables (plan_of_rows counts x.rows)) (rows_meaning tables x.rows) rows))
