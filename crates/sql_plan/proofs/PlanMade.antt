-- What is made of the plans of parts is the plan of the whole.
use Rattle.std.proofs.Common.{◌≡◌, ℕ, ◌+◌, ◌<◌, Bool, true, false, cond, List, [], ◌∷◌, ◌++◌, map, refl, sym, ap, ap₂, ◌∙◌, subst, length, get_or, drop, Some, None}
use Rattle.std.specs.Prelude.{Result, Ok, Err, IfOk, not, is_some}
use Rattle.ooc_types.specs.declared.schema.SqlType.{SqlType}
use Rattle.ooc_types.specs.declared.memory.OutOfMemory.{OutOfMemory}
use Rattle.sql_expr.specs.declared.tree.Expr.{Expr}
use Rattle.bound_tree.specs.declared.kinds.SetKind.{SetKind}
use Rattle.bound_tree.specs.declared.select.BoundCore.{BoundCore}
use Rattle.bound_tree.specs.declared.select.BoundRows.{BoundRows}
use Rattle.bound_tree.specs.declared.select.BoundSelect.{BoundSelect}
use Rattle.bound_tree.specs.declared.select.BoundSource.{BoundSource}
use Rattle.bound_tree.specs.declared.select.Conjunct.{Conjunct}
use Rattle.bound_tree.specs.declared.select.SourceRows.{SourceRows}
use Rattle.bound_tree.specs.declared.select.BoundRows.TheOpen.{BoundRows-F, Conjunct-F, SourceRows-F}
use Rattle.bound_tree.specs.declared.select.BoundRows.TheViews.{out-BoundCore, out-BoundRows, out-BoundSelect, out-BoundSource, out-Conjunct, out-SourceRows}
use Rattle.sql_meaning.specs.Statements.{Tables, cut_of, select_meaning}
use Rattle.sql_meaning.specs.Same.{Agrees}
use Rattle.plan_tree.specs.Means.{plan_meaning}
use Rattle.plan_tree.specs.Plannable.{IsPlannable, columns_of_source}
use Rattle.plan_tree.specs.declared.parts.SourcePlan.{SourcePlan}
use Rattle.plan_tree.specs.declared.stages.PlanConjunct.{PlanConjunct}
use Rattle.plan_tree.specs.declared.stages.PlanCore.{PlanCore}
use Rattle.plan_tree.specs.declared.stages.PlanInput.{PlanInput}
use Rattle.plan_tree.specs.declared.stages.PlanRows.{PlanRows}
use Rattle.plan_tree.specs.declared.stages.PlanSelect.{PlanSelect}
use Rattle.plan_tree.specs.declared.stages.PlanSource.{PlanSource}
use Rattle.plan_tree.specs.declared.stages.PlanConjunct.TheOpen.{PlanConjunct-F, PlanInput-F, PlanRows-F}
use Rattle.plan_tree.specs.declared.stages.PlanConjunct.TheViews.{out-roll-PlanConjunct, roll-PlanConjunct, roll-PlanInput, roll-PlanRows, roll-PlanSelect}
use Rattle.plan_tree.specs.Planned.{Counts, plan_source, written_stages, other_conjuncts, moved_in, plan_of_conjunct, plan_of_core, plan_of_input, plan_of_rows, plan_of_select, plan_of_source}
use Rattle.plan_tree.specs.Split.{split_on}
use Rattle.plan_tree.proofs.WholePlan.{plan-means}
use Rattle.sql_plan.specs.declared.free.FromPlan.{FromPlan}
use Rattle.sql_plan.specs.declared.places.Places.{Places}
use Rattle.sql_plan.specs.declared.places.Places.TheVariants.{Kept, Moved}
use Rattle.sql_plan.specs.Cores.{conjunct_by, core_by, from_by, from_of, written_from, written_stage}
use Rattle.sql_plan.specs.Places.{moved_by}
use Rattle.sql_plan.specs.Sources as bound
use Rattle.sql_plan.specs.Steps.{GoesOn, GoesOnBoth}
use Rattle.sql_plan.proofs.CoreLemmas.{core-is}
use Rattle.sql_plan.proofs.FreeLemmas.{plain-is}
use Rattle.sql_plan.proofs.Going.{goes_on, goes_on_both, said}
use Rattle.sql_plan.proofs.Lists.{SoFar, goes_one_further, drop_is}
use Rattle.sql_plan.proofs.PlanOut.{rows_core, rows_set, conjunct_condition, conjunct_member, input_table, input_query, select_is, source_is}

module _ (counts : Counts) where
  pub table_made : (x : SourceRows) (name name' : List ℕ) (result : Result PlanInput OutOfMemory) → out-SourceRows x ≡ SourceRows-F.Table name → name' ≡ name
      → IfOk result (λ i. i ≡ roll-PlanInput (PlanInput-F.Table name')) → IfOk result (λ i. i ≡ plan_of_input counts x)
  table_made x name name' result is same made =
      said (roll-PlanInput (PlanInput-F.Table name')) (plan_of_input counts x) result (ap (λ n. roll-PlanInput (PlanInput-F.Table n)) same ∙ sym (input_table counts x name is)) made

  pub query_made : (x : SourceRows) (select select' : BoundSelect) (got : Result PlanSelect OutOfMemory) (result : Result PlanInput OutOfMemory) → out-SourceRows x ≡ SourceRows-F.Query select → select' ≡ select
      → IfOk got (λ p. p ≡ plan_of_select counts select') → GoesOn (λ p. roll-PlanInput (PlanInput-F.Query p)) got result → IfOk result (λ i. i ≡ plan_of_input counts x)
  query_made x select select' got result is same made on =
      said (roll-PlanInput (PlanInput-F.Query (plan_of_select counts select'))) (plan_of_input counts x) result
      (ap (λ s. roll-PlanInput (PlanInput-F.Query (plan_of_select counts s))) same ∙ sym (input_query counts x select is))
      (goes_on (λ p. roll-PlanInput (PlanInput-F.Query p)) (plan_of_select counts select') got result made on)

  pub core_made : (x : BoundRows) (core core' : BoundCore) (got : Result PlanCore OutOfMemory) (result : Result PlanRows OutOfMemory) → out-BoundRows x ≡ BoundRows-F.Core core → core' ≡ core
      → IfOk got (λ p. p ≡ plan_of_core counts core') → GoesOn (λ p. roll-PlanRows (PlanRows-F.Core p)) got result → IfOk result (λ r. r ≡ plan_of_rows counts x)
  core_made x core core' got result is same made on =
      said (roll-PlanRows (PlanRows-F.Core (plan_of_core counts core'))) (plan_of_rows counts x) result
      (ap (λ c. roll-PlanRows (PlanRows-F.Core (plan_of_core counts c))) same ∙ sym (rows_core counts x core is))
      (goes_on (λ p. roll-PlanRows (PlanRows-F.Core p)) (plan_of_core counts core') got result made on)

  pub set_made : (x : BoundRows) (kind : SetKind) (all : Bool) (left left' right right' : BoundRows) (kinds : List SqlType) (got more result : Result PlanRows OutOfMemory)
      → out-BoundRows x ≡ BoundRows-F.Set kind all left right kinds → left' ≡ left → right' ≡ right → IfOk got (λ p. p ≡ plan_of_rows counts left') → IfOk more (λ p. p ≡ plan_of_rows counts right')
      → GoesOnBoth (λ p q. roll-PlanRows (PlanRows-F.Set kind all p q)) got more result → IfOk result (λ r. r ≡ plan_of_rows counts x)
  set_made x kind all left left' right right' kinds got more result is same sames made mades on =
      said (roll-PlanRows (PlanRows-F.Set kind all (plan_of_rows counts left') (plan_of_rows counts right'))) (plan_of_rows counts x) result
      ((λ i. roll-PlanRows (PlanRows-F.Set kind all (plan_of_rows counts (same i)) (plan_of_rows counts (sames i)))) ∙ sym (rows_set counts x kind all left right kinds is))
      (goes_on_both (λ p q. roll-PlanRows (PlanRows-F.Set kind all p q)) (plan_of_rows counts left') (plan_of_rows counts right') got more result made mades on)

  moved_condition : (places : Places) (expr : Expr) → roll-PlanConjunct (PlanConjunct-F.Condition (moved_by places expr)) ≡ conjunct_by places (roll-PlanConjunct (PlanConjunct-F.Condition expr))
  moved_condition Kept expr = refl
  moved_condition (Moved list) expr = sym (ap (moved_in list) (out-roll-PlanConjunct (PlanConjunct-F.Condition expr)))

  moved_member : (places : Places) (of : Expr) (query : PlanSelect) (negated : Bool)
      → roll-PlanConjunct (PlanConjunct-F.Member (moved_by places of) query negated) ≡ conjunct_by places (roll-PlanConjunct (PlanConjunct-F.Member of query negated))
  moved_member Kept of query negated = refl
  moved_member (Moved list) of query negated = sym (ap (moved_in list) (out-roll-PlanConjunct (PlanConjunct-F.Member of query negated)))

  pub condition_made : (places : Places) (x : Conjunct) (expr expr' : Expr) (result : Result PlanConjunct OutOfMemory) → out-Conjunct x ≡ Conjunct-F.Condition expr → expr' ≡ expr
      → IfOk result (λ c. c ≡ roll-PlanConjunct (PlanConjunct-F.Condition (moved_by places expr'))) → IfOk result (λ c. c ≡ conjunct_by places (plan_of_conjunct counts x))
  condition_made places x expr expr' result is same made =
      said (roll-PlanConjunct (PlanConjunct-F.Condition (moved_by places expr'))) (conjunct_by places (plan_of_conjunct counts x)) result
      (ap (λ e. roll-PlanConjunct (PlanConjunct-F.Condition (moved_by places e))) same ∙ moved_condition places expr ∙ sym (ap (conjunct_by places) (conjunct_condition counts x expr is))) made

  pub member_made : (places : Places) (x : Conjunct) (of of' : Expr) (query query' : BoundSelect) (negated : Bool) (got : Result PlanSelect OutOfMemory) (result : Result PlanConjunct OutOfMemory)
      → out-Conjunct x ≡ Conjunct-F.Member of query negated → of' ≡ of → query' ≡ query → IfOk got (λ p. p ≡ plan_of_select counts query')
      → GoesOn (λ p. roll-PlanConjunct (PlanConjunct-F.Member (moved_by places of') p negated)) got result → IfOk result (λ c. c ≡ conjunct_by places (plan_of_conjunct counts x))
  member_made places x of of' query query' negated got result is same sames made on =
      said (roll-PlanConjunct (PlanConjunct-F.Member (moved_by places of') (plan_of_select counts query') negated)) (conjunct_by places (plan_of_conjunct counts x)) result
      ((λ i. roll-PlanConjunct (PlanConjunct-F.Member (moved_by places (same i)) (plan_of_select counts (sames i)) negated)) ∙ moved_member places of (plan_of_select counts query) negated
      ∙ sym (ap (conjunct_by places) (conjunct_member counts x of query negated is)))
      (goes_on (λ p. roll-PlanConjunct (PlanConjunct-F.Member (moved_by places of') p negated)) (plan_of_select counts query') got result made on)

  pub select_made : (x : BoundSelect) (rows : BoundRows) (got : Result PlanRows OutOfMemory) (result : Result PlanSelect OutOfMemory) → rows ≡ (out-BoundSelect x).rows → IfOk got (λ p. p ≡ plan_of_rows counts rows)
      → GoesOn (λ p. roll-PlanSelect (record { rows = p; columns = (out-BoundSelect x).columns; cut = (out-BoundSelect x).cut })) got result → IfOk result (λ s. s ≡ plan_of_select counts x)
  select_made x rows got result same made on =
      said (roll-PlanSelect (record { rows = plan_of_rows counts rows; columns = (out-BoundSelect x).columns; cut = (out-BoundSelect x).cut })) (plan_of_select counts x) result
      (ap (λ r. roll-PlanSelect (record { rows = plan_of_rows counts r; columns = (out-BoundSelect x).columns; cut = (out-BoundSelect x).cut })) same ∙ sym (select_is counts x))
      (goes_on (λ p. roll-PlanSelect (record { rows = p; columns = (out-BoundSelect x).columns; cut = (out-BoundSelect x).cut })) (plan_of_rows counts rows) got result made on)

  abbrev others_in : BoundCore → Places → List PlanConjunct
  others_in x places = map (conjunct_by places) (other_conjuncts (map (plan_of_conjunct counts) (out-BoundCore x).conjuncts))

  pub whole_made : (x : BoundCore) (from : FromPlan) (conjuncts : List Conjunct) (got : Result (List PlanConjunct) OutOfMemory) (result : Result PlanCore OutOfMemory) → from ≡ from_of counts x
      → conjuncts ≡ (out-BoundCore x).conjuncts → IfOk got (λ others. others ≡ map (conjunct_by from.places) (other_conjuncts (map (plan_of_conjunct counts) conjuncts)))
      → GoesOn (λ others. core_by from others x) got result → IfOk result (λ p. p ≡ plan_of_core counts x)
  whole_made x from conjuncts got result is same made on =
      said (core_by from (map (conjunct_by from.places) (other_conjuncts (map (plan_of_conjunct counts) conjuncts))) x) (plan_of_core counts x) result
      ((λ i. core_by (is i) (map (conjunct_by (is i).places) (other_conjuncts (map (plan_of_conjunct counts) (same i)))) x) ∙ sym (core-is counts x))
      (goes_on (λ others. core_by from others x) (map (conjunct_by from.places) (other_conjuncts (map (plan_of_conjunct counts) conjuncts))) got result made on)

  -- ---- a FROM

  pub free_made : (x : BoundCore) (first : BoundSource) (sources : List BoundSource) (conjuncts : List Conjunct) (result : Result FromPlan OutOfMemory) → sources ≡ (out-BoundCore x).sources
      → conjuncts ≡ (out-BoundCore x).conjuncts → Some first ≡ bound.first_of_free sources → IfOk result (λ f. f ≡ from_by counts (Some first) sources conjuncts) → IfOk result (λ f. f ≡ from_of counts x)
  free_made x first sources conjuncts result is same free made =
      said (from_by counts (Some first) sources conjuncts) (from_of counts x) result
      (ap (λ o. from_by counts o sources conjuncts) free ∙ (λ i. from_by counts (bound.first_of_free (is i)) (is i) (same i))) made

  pub written_made : (x : BoundCore) (sources : List BoundSource) (conjuncts : List Conjunct) (got : Result (List PlanSource) OutOfMemory) (result : Result FromPlan OutOfMemory)
      → sources ≡ (out-BoundCore x).sources → conjuncts ≡ (out-BoundCore x).conjuncts → None ≡ bound.first_of_free sources
      → IfOk got (λ s. s ≡ written_stages 0 (map (plan_of_source counts) sources)) → GoesOn (λ s. written_from s conjuncts) got result → IfOk result (λ f. f ≡ from_of counts x)
  written_made x sources conjuncts got result is same free made on =
      said (from_by counts None sources conjuncts) (from_of counts x) result
      (ap (λ o. from_by counts o sources conjuncts) free ∙ (λ i. from_by counts (bound.first_of_free (is i)) (is i) (same i)))
      (goes_on (λ s. written_from s conjuncts) (written_stages 0 (map (plan_of_source counts) sources)) got result made on)

  -- ---- lists

  stage-written : (at : ℕ) (source : BoundSource) → plan_source (plan_of_source counts source) (split_on at (plan_of_source counts source).width (plan_of_source counts source).on) ≡ written_stage at source (plan_of_input counts (out-BoundSource source).rows)
  stage-written at source = ap (λ (p : SourcePlan). plan_source p (split_on at p.width p.on)) (source_is counts source)

  pub source_further : (whole : List PlanSource) (at at' : ℕ) (got : Result (List PlanSource) OutOfMemory) (input : Result PlanInput OutOfMemory) (stage : Result PlanSource OutOfMemory) (result : Result (List PlanSource) OutOfMemory)
      (list : List BoundSource) (i : ℕ) (x : BoundSource) (rows : SourceRows) → i < length list → x ≡ get_or list i x → rows ≡ (out-BoundSource x).rows → at' ≡ at + columns_of_source x
      → SoFar whole got (written_stages at (map (plan_of_source counts) (drop i list))) → IfOk input (λ p. p ≡ plan_of_input counts rows) → GoesOn (λ p. written_stage at x p) input stage
      → GoesOnBoth (λ made b. made ++ b ∷ []) got stage result → SoFar whole result (written_stages at' (map (plan_of_source counts) (drop (i + 1) list)))
  source_further whole at at' got input stage result list i x rows h is same wide far made staged on =
      let width : (plan_of_source counts x).width ≡ columns_of_source x = ap (λ (p : SourcePlan). p.width) (source_is counts x) in
      goes_one_further whole (written_stages at (map (plan_of_source counts) (drop i list))) (written_stages at' (map (plan_of_source counts) (drop (i + 1) list))) got stage result (written_stage at x (plan_of_input counts rows))
      (ap (λ l. written_stages at (map (plan_of_source counts) l)) (drop_is list i x h is)
      ∙ ap₂ ◌∷◌ (stage-written at x ∙ ap (λ r. written_stage at x (plan_of_input counts r)) (sym same))
      (ap (λ n. written_stages n (map (plan_of_source counts) (drop (i + 1) list))) (ap (λ w. at + w) width ∙ sym wide)))
      far
      (goes_on (λ p. written_stage at x p) (plan_of_input counts rows) input stage made staged)
      on

  pub other_further : (places : Places) (whole : List PlanConjunct) (got : Result (List PlanConjunct) OutOfMemory) (item : Result PlanConjunct OutOfMemory) (result : Result (List PlanConjunct) OutOfMemory)
      (list : List Conjunct) (i : ℕ) (x : Conjunct) → i < length list → x ≡ get_or list i x → is_some (bound.plain_conjunct x) ≡ false
      → SoFar whole got (map (conjunct_by places) (other_conjuncts (map (plan_of_conjunct counts) (drop i list)))) → IfOk item (λ c. c ≡ conjunct_by places (plan_of_conjunct counts x))
      → GoesOnBoth (λ made b. made ++ b ∷ []) got item result → SoFar whole result (map (conjunct_by places) (other_conjuncts (map (plan_of_conjunct counts) (drop (i + 1) list))))
  other_further places whole got item result list i x h is plain far made on =
      let rest = other_conjuncts (map (plan_of_conjunct counts) (drop (i + 1) list)) in
      goes_one_further whole (map (conjunct_by places) (other_conjuncts (map (plan_of_conjunct counts) (drop i list)))) (map (conjunct_by places) rest) got item result (conjunct_by places (plan_of_conjunct counts x))
      (ap (λ l. map (conjunct_by places) (other_conjuncts (map (plan_of_conjunct counts) l))) (drop_is list i x h is)
      ∙ ap (λ b. map (conjunct_by places) (cond (not b) (plan_of_conjunct counts x ∷ rest) rest)) (ap is_some (plain-is counts x) ∙ plain))
      far made on

  pub other_skipped : (places : Places) (whole : List PlanConjunct) (got : Result (List PlanConjunct) OutOfMemory) (list : List Conjunct) (i : ℕ) (x : Conjunct) → i < length list → x ≡ get_or list i x
      → is_some (bound.plain_conjunct x) ≡ true → SoFar whole got (map (conjunct_by places) (other_conjuncts (map (plan_of_conjunct counts) (drop i list))))
      → SoFar whole got (map (conjunct_by places) (other_conjuncts (map (plan_of_conjunct counts) (drop (i + 1) list))))
  other_skipped places whole got list i x h is plain far =
      let rest = other_conjuncts (map (plan_of_conjunct counts) (drop (i + 1) list)) in
      subst (SoFar whole got)
      (ap (λ l. map (conjunct_by places) (other_conjuncts (map (plan_of_conjunct counts) l))) (drop_is list i x h is)
      ∙ ap (λ b. map (conjunct_by places) (cond (not b) (plan_of_conjunct counts x ∷ rest) rest)) (ap is_some (plain-is counts x) ∙ plain))
      far

  -- ---- the whole

  pub plan_meant : (select : BoundSelect) (result : Result PlanSelect OutOfMemory) → IfOk result (λ p. p ≡ plan_of_select counts select)
      → IfOk result (λ p. (tables : Tables) → IsPlannable tables select → Agrees (cut_of (out-BoundSelect select).cut) (plan_meaning tables p) (select_meaning tables select))
  plan_meant select (Err e) made = tt
  plan_meant select (Ok p) made =
      λ tables plannable. subst (λ q. Agrees (cut_of (out-BoundSelect select).cut) (plan_meaning tables q) (select_meaning tables select)) (sym made) (plan-means tables counts select plannable)
