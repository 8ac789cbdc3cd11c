-- The plan of a core means the core.
use Rattle.std.proofs.Common.{◌≡◌, ℕ, zero, suc, ◌+◌, ◌≤◌, Bool, true, false, cond, not, ◌&&◌, List, [], ◌∷◌, ◌++◌, map, length, refl, sym, ap, ap₂, ◌∙◌, subst, arith, Option, Some, None}
use Rattle.std.specs.Option.{option_map}
use Rattle.std.specs.Prelude.{filter, flat_map, is_some, slice_index_or, ⊤}
use Rattle.std.specs.List.{AllByRecursion, list_all, cons_option}
use Rattle.sql_expr.specs.declared.fault.ValueFault.{ValueFault}
use Rattle.sql_expr.specs.declared.tree.Expr.{Expr}
use Rattle.sql_expr.specs.Meaning.{value_of}
use Rattle.sql_expr.specs.Plain.{IsFaultless}
use Rattle.ooc_decimal.specs.Numeric.{scale_of}
use Rattle.sql_meaning.specs.Ordered.{value_at}
use Rattle.bound_tree.specs.declared.select.Aggregate.{Aggregate}
use Rattle.bound_tree.specs.declared.select.Grouping.{Grouping as BoundGrouping}
use Rattle.sql_meaning.specs.Found.{Found, Row, IsSame, clean, and_then, unless_faulted}
use Rattle.sql_meaning.specs.Judged.{Condition, plain_first, is_plain, filtered}
use Rattle.sql_meaning.specs.From.{Source, from_rows}
use Rattle.sql_meaning.specs.Select.{selected}
use Rattle.sql_meaning.specs.Moved.{moved}
use Rattle.sql_meaning.specs.Plan.{put_back, above_where, IsRenamedAbove}
use Rattle.sql_meaning.specs.Renamed.{AreSaid, AreRenamedValues, IsRenamedAggregate, AreRenamedAggregates}
use Rattle.sql_meaning.specs.Pool.{IsPlainCondition}
use Rattle.sql_meaning.specs.Stage.{KeyPair, IsJoinOf, AreJoinsOf, joined_behind}
use Rattle.sql_meaning.specs.Statements.{Tables, Meant, row_value_of, condition_of, member_says, aggregation_of, grouping_of, core_of}
use Rattle.sql_meaning.proofs.JoinStages.{joins-mean}
use Rattle.sql_meaning.proofs.MovedLemmas.{moved-value, moved-kind}
use Rattle.sql_meaning.proofs.Planning.{free_stages_mean}
use Rattle.sql_meaning.proofs.Stages.{same-refl}
use Rattle.plan_tree.specs.declared.stages.PlanConjunct.{PlanConjunct}
use Rattle.plan_tree.specs.declared.stages.PlanCore.{PlanCore}
use Rattle.plan_tree.specs.declared.stages.PlanInput.{PlanInput}
use Rattle.plan_tree.specs.declared.stages.PlanRows.{PlanRows}
use Rattle.plan_tree.specs.declared.stages.PlanSelect.{PlanSelect}
use Rattle.plan_tree.specs.declared.stages.PlanSource.{PlanSource}
use Rattle.plan_tree.specs.declared.stages.PlanConjunct.TheOpen.{PlanConjunct-F, PlanInput-F}
use Rattle.plan_tree.specs.declared.stages.PlanConjunct.TheFolds.{fold_out-PlanConjunct, fold_out-PlanInput, fold-roll-PlanConjunct, fold-roll-PlanCore, fold-roll-PlanSource, map-PlanConjunct, map-PlanInput}
use Rattle.plan_tree.specs.declared.stages.PlanConjunct.TheViews.{out-PlanConjunct, out-PlanInput}
use Rattle.plan_tree.specs.Split.{JoinParts, is_plain_expr, top, split, split_on, join_side}
use Rattle.plan_tree.specs.declared.parts.Entry.{Entry}
use Rattle.plan_tree.specs.FreeFrom.{FreeTable, picks_of, places_of_plan, names_columns, pool_of, ready, later, named, bare}
use Rattle.plan_tree.specs.Given.{Given, tables_given, source_of, rows_given, total_width, AreGiven}
use Rattle.plan_tree.specs.Means.{Staged, key_pair, plan_conjunct_meant, input_found, staged, plan_core_found, plan_rows_found, plan_select_found, plan_core_meaning, plan_conjunct_meaning, plan_input_meaning, plan_source_meaning, plan_rows_meaning, plan_meaning}
use Rattle.plan_tree.specs.declared.parts.SourcePlan.{SourcePlan}
use Rattle.plan_tree.specs.Planned.{Counts, key_columns, plan_source, plain_in, plain_of, plain_conjuncts, other_conjuncts, written_stages, table_in, table_of, is_free_source, is_free, free_table, free_tables, free_stages, source_at, moved_aggregate, moved_grouping, moved_in, moved_conjunct, moved_items, written_core, free_core, planned_core}
use Rattle.plan_tree.specs.Plannable.{IsSure}
use Rattle.plan_tree.proofs.JoinLemmas.{all-kept, all-on, join-of}
use Rattle.plan_tree.proofs.OrderLemmas.{items}
use Rattle.plan_tree.proofs.FreeLemmas.{sides_from, stages-are-loops}
use Rattle.plan_tree.proofs.FreePlan.{plan_entries, plan_places, plan_loops, plan-free, pool-sure}

-- ---- expressions in place

and-left : (a b : Bool) → (a && b) ≡ true → a ≡ true
and-left true b e = refl
and-left false b e = cc

and-right : (a b : Bool) → (a && b) ≡ true → b ≡ true
and-right true b e = e
and-right false b e = cc

keys-back : (keys : List KeyPair) → map key_pair (map key_columns keys) ≡ keys
keys-back [] = refl
keys-back (key ∷ keys) = ap (λ l. key ∷ l) (keys-back keys)

module _ (tables : Tables) where
  pub source-meant : (source : SourcePlan) (parts : JoinParts)
      → plan_source_meaning tables (plan_source source parts) ≡ record { found = plan_input_meaning tables source.input; side = join_side (plan_input_meaning tables source.input).rows source.width source.pads parts }
  source-meant source parts =
      fold-roll-PlanSource Meant (Found Row) (Found Row) (Found Row) (Found Row) Staged plan_conjunct_meant (input_found tables) plan_rows_found plan_core_found plan_select_found staged (record { name = source.name; rows = source.input; width = source.width; pads = source.pads; filters = parts.filters; keys = map key_columns parts.keys; rest = parts.rest })
      ∙ (λ i. record {
        found = plan_input_meaning tables source.input;
        side = join_side (plan_input_meaning tables source.input).rows source.width source.pads (record { filters = parts.filters; keys = keys-back parts.keys i; rest = parts.rest });
      })

  conjunct-is : (conjunct : PlanConjunct) (x : PlanConjunct-F PlanConjunct PlanInput PlanRows PlanCore PlanSelect PlanSource) → out-PlanConjunct conjunct ≡ x
      → plan_conjunct_meaning tables conjunct ≡ plan_conjunct_meant (map-PlanConjunct PlanConjunct PlanInput PlanRows PlanCore PlanSelect PlanSource Meant (Found Row) (Found Row) (Found Row) (Found Row) Staged (plan_conjunct_meaning tables) (plan_input_meaning tables) (plan_rows_meaning tables) (plan_core_meaning tables) (plan_meaning tables) (plan_source_meaning tables) x)
  conjunct-is conjunct x is =
      fold_out-PlanConjunct Meant (Found Row) (Found Row) (Found Row) (Found Row) Staged plan_conjunct_meant (input_found tables) plan_rows_found plan_core_found plan_select_found staged conjunct
      ∙ ap (λ z. plan_conjunct_meant (map-PlanConjunct PlanConjunct PlanInput PlanRows PlanCore PlanSelect PlanSource Meant (Found Row) (Found Row) (Found Row) (Found Row) Staged (plan_conjunct_meaning tables) (plan_input_meaning tables) (plan_rows_meaning tables) (plan_core_meaning tables) (plan_meaning tables) (plan_source_meaning tables) z)) is

  input-is : (input : PlanInput) (x : PlanInput-F PlanConjunct PlanInput PlanRows PlanCore PlanSelect PlanSource) → out-PlanInput input ≡ x
      → plan_input_meaning tables input ≡ input_found tables (map-PlanInput PlanConjunct PlanInput PlanRows PlanCore PlanSelect PlanSource Meant (Found Row) (Found Row) (Found Row) (Found Row) Staged (plan_conjunct_meaning tables) (plan_input_meaning tables) (plan_rows_meaning tables) (plan_core_meaning tables) (plan_meaning tables) (plan_source_meaning tables) x)
  input-is input x is =
      fold_out-PlanInput Meant (Found Row) (Found Row) (Found Row) (Found Row) Staged plan_conjunct_meant (input_found tables) plan_rows_found plan_core_found plan_select_found staged input
      ∙ ap (λ z. input_found tables (map-PlanInput PlanConjunct PlanInput PlanRows PlanCore PlanSelect PlanSource Meant (Found Row) (Found Row) (Found Row) (Found Row) Staged (plan_conjunct_meaning tables) (plan_input_meaning tables) (plan_rows_meaning tables) (plan_core_meaning tables) (plan_meaning tables) (plan_source_meaning tables) z)) is

  -- a table gives its rows
  pub table-meant : (input : PlanInput) → is_some (table_of input) ≡ true → plan_input_meaning tables input ≡ clean (plan_input_meaning tables input).rows
  table-meant input some = go (out-PlanInput input) refl some
    where
      go : (x : PlanInput-F PlanConjunct PlanInput PlanRows PlanCore PlanSelect PlanSource) → out-PlanInput input ≡ x → is_some (table_in x) ≡ true → plan_input_meaning tables input ≡ clean (plan_input_meaning tables input).rows
      go (PlanInput-F.Table name) is h = let e = input-is input (PlanInput-F.Table name) is in e ∙ ap (λ (found : Found Row). clean found.rows) (sym e)
      go (PlanInput-F.Query select) is h = cc

  -- ---- the conjuncts of WHERE: plain ones, and others

  abbrev pub means_of : List PlanConjunct → List Meant
  means_of = map (plan_conjunct_meaning tables)

  abbrev conditions_in : List Meant → List Condition
  conditions_in = map (λ meant. meant.condition)

  abbrev faults_in : List Meant → List ValueFault
  faults_in = flat_map (λ meant. meant.faults)

  -- a conjunct that is plain is its expression, and one that isn't is not plain
  abbrev pub IsPlainAs : Meant → Option Expr → Type 0
  IsPlainAs meant None = meant.condition.plain ≡ false
  IsPlainAs meant (Some e) = (meant.condition ≡ condition_of e) × (meant.faults ≡ []) × (is_plain_expr e ≡ true)

  conjunct-plain : (conjunct : PlanConjunct) → IsPlainAs (plan_conjunct_meaning tables conjunct) (plain_of conjunct)
  conjunct-plain conjunct = go (out-PlanConjunct conjunct) refl
    where
      condition : (e : Expr) → out-PlanConjunct conjunct ≡ PlanConjunct-F.Condition e → (b : Bool) → is_plain_expr e ≡ b → IsPlainAs (plan_conjunct_meaning tables conjunct) (cond b (Some e) None)
      condition e is true plain = let meant = conjunct-is conjunct (PlanConjunct-F.Condition e) is in (ap (λ (m : Meant). m.condition) meant, ap (λ (m : Meant). m.faults) meant, plain)
      condition e is false plain = let meant = conjunct-is conjunct (PlanConjunct-F.Condition e) is in ap (λ (m : Meant). m.condition.plain) meant ∙ plain

      go : (x : PlanConjunct-F PlanConjunct PlanInput PlanRows PlanCore PlanSelect PlanSource) → out-PlanConjunct conjunct ≡ x → IsPlainAs (plan_conjunct_meaning tables conjunct) (plain_in (out-PlanConjunct conjunct))
      go (PlanConjunct-F.Condition e) is = subst (λ x. IsPlainAs (plan_conjunct_meaning tables conjunct) (plain_in x)) (sym is) (condition e is (is_plain_expr e) refl)
      go (PlanConjunct-F.Member e query negated) is =
          subst (λ x. IsPlainAs (plan_conjunct_meaning tables conjunct) (plain_in x)) (sym is) (ap (λ (m : Meant). m.condition.plain) (conjunct-is conjunct (PlanConjunct-F.Member e query negated) is))

  pub plain-are : (conjuncts : List PlanConjunct) → filter is_plain (conditions_in (means_of conjuncts)) ≡ map condition_of (plain_conjuncts conjuncts)
  plain-are [] = refl
  plain-are (c ∷ conjuncts) = go (plain_of c) (conjunct-plain c) (plain-are conjuncts)
    where
      go : (x : Option Expr) → IsPlainAs (plan_conjunct_meaning tables c) x → filter is_plain (conditions_in (means_of conjuncts)) ≡ map condition_of (plain_conjuncts conjuncts)
          → filter is_plain (conditions_in (means_of (c ∷ conjuncts))) ≡ map condition_of (cons_option x (plain_conjuncts conjuncts))
      go None h rest = ap (λ b. cond b ((plan_conjunct_meaning tables c).condition ∷ filter is_plain (conditions_in (means_of conjuncts))) (filter is_plain (conditions_in (means_of conjuncts)))) h ∙ rest
      go (Some e) h rest =
          ap (λ (k : Condition). cond k.plain (k ∷ filter is_plain (conditions_in (means_of conjuncts))) (filter is_plain (conditions_in (means_of conjuncts)))) h.0
          ∙ ap (λ b. cond b (condition_of e ∷ filter is_plain (conditions_in (means_of conjuncts))) (filter is_plain (conditions_in (means_of conjuncts)))) h.2
          ∙ ap (λ l. condition_of e ∷ l) rest

  pub others-are : (conjuncts : List PlanConjunct) → filter (λ c. not (is_plain c)) (conditions_in (means_of conjuncts)) ≡ conditions_in (means_of (other_conjuncts conjuncts))
  others-are [] = refl
  others-are (c ∷ conjuncts) = go (plain_of c) refl (conjunct-plain c) (others-are conjuncts)
    where
      go : (x : Option Expr) → plain_of c ≡ x → IsPlainAs (plan_conjunct_meaning tables c) x → filter (λ c. not (is_plain c)) (conditions_in (means_of conjuncts)) ≡ conditions_in (means_of (other_conjuncts conjuncts))
          → filter (λ c. not (is_plain c)) (conditions_in (means_of (c ∷ conjuncts))) ≡ conditions_in (means_of (other_conjuncts (c ∷ conjuncts)))
      go None is h rest =
          ap (λ b. cond (not b) ((plan_conjunct_meaning tables c).condition ∷ filter (λ c. not (is_plain c)) (conditions_in (means_of conjuncts))) (filter (λ c. not (is_plain c)) (conditions_in (means_of conjuncts)))) h
          ∙ ap (λ l. (plan_conjunct_meaning tables c).condition ∷ l) rest
          ∙ ap (λ x. conditions_in (means_of (cond (not (is_some x)) (c ∷ other_conjuncts conjuncts) (other_conjuncts conjuncts)))) (sym is)
      go (Some e) is h rest =
          ap (λ b. cond (not b) ((plan_conjunct_meaning tables c).condition ∷ filter (λ c. not (is_plain c)) (conditions_in (means_of conjuncts))) (filter (λ c. not (is_plain c)) (conditions_in (means_of conjuncts)))) (ap (λ (k : Condition). k.plain) h.0 ∙ h.2)
          ∙ rest
          ∙ ap (λ x. conditions_in (means_of (cond (not (is_some x)) (c ∷ other_conjuncts conjuncts) (other_conjuncts conjuncts)))) (sym is)

  pub faults-are : (conjuncts : List PlanConjunct) → faults_in (means_of conjuncts) ≡ faults_in (means_of (other_conjuncts conjuncts))
  faults-are [] = refl
  faults-are (c ∷ conjuncts) = go (plain_of c) refl (conjunct-plain c) (faults-are conjuncts)
    where
      go : (x : Option Expr) → plain_of c ≡ x → IsPlainAs (plan_conjunct_meaning tables c) x → faults_in (means_of conjuncts) ≡ faults_in (means_of (other_conjuncts conjuncts))
          → faults_in (means_of (c ∷ conjuncts)) ≡ faults_in (means_of (other_conjuncts (c ∷ conjuncts)))
      go None is h rest = ap (λ l. (plan_conjunct_meaning tables c).faults ++ l) rest ∙ ap (λ x. faults_in (means_of (cond (not (is_some x)) (c ∷ other_conjuncts conjuncts) (other_conjuncts conjuncts)))) (sym is)
      go (Some e) is h rest = ap (λ l. l ++ faults_in (means_of conjuncts)) h.1 ∙ rest ∙ ap (λ x. faults_in (means_of (cond (not (is_some x)) (c ∷ other_conjuncts conjuncts) (other_conjuncts conjuncts)))) (sym is)

  -- ---- a FROM in written order

  abbrev pub columns_planned : List SourcePlan → ℕ
  columns_planned [] = 0
  columns_planned (source ∷ sources) = source.width + columns_planned sources

  abbrev pub planned_source : SourcePlan → Source
  planned_source source = record { found = plan_input_meaning tables source.input; width = source.width; pads = source.pads; on = map condition_of source.on }

  -- Each row has the columns of its source; ON names columns up to its source's, and its plain conjuncts have values.
  abbrev pub AreSoundSources : ℕ → List SourcePlan → Type 0
  AreSoundSources at [] = ⊤
  AreSoundSources at (source ∷ sources) =
      AllByRecursion (λ row. length row ≡ source.width) (plan_input_meaning tables source.input).rows
      × (AllByRecursion (λ e. top e ≤ at + source.width) source.on
      × (AllByRecursion IsSure source.on
      × AreSoundSources (at + source.width) sources))

  sides-written : (at : ℕ) (sources : List SourcePlan) → AreSoundSources at sources
      → AreJoinsOf at (map planned_source sources) (map (λ (s : Staged). s.side) (map (plan_source_meaning tables) (written_stages at sources)))
  sides-written at [] sound = tt
  sides-written at (source ∷ sources) sound = (
    subst (λ (s : Staged). IsJoinOf at (planned_source source) s.side) (sym (source-meant source (split_on at source.width source.on)))
        (join-of at (planned_source source) source.on refl sound.0 sound.1.0 sound.1.1.0),
    sides-written (at + source.width) sources sound.1.1.1,
  )

  faults-written : (at : ℕ) (sources : List SourcePlan)
      → flat_map (λ (s : Staged). s.found.faults) (map (plan_source_meaning tables) (written_stages at sources)) ≡ flat_map (λ (s : Source). s.found.faults) (map planned_source sources)
  faults-written at [] = refl
  faults-written at (source ∷ sources) =
      ap₂ ◌++◌ (ap (λ (s : Staged). s.found.faults) (source-meant source (split_on at source.width source.on))) (faults-written (at + source.width) sources)

  pub written-means : (sources : List SourcePlan) (conjuncts : List PlanConjunct) (grouping : Option BoundGrouping) (exprs : List Expr) (distinct : Bool) → AreSoundSources 0 sources
      → plan_core_meaning tables (written_core sources conjuncts grouping exprs distinct) ≡ selected (core_of (means_of conjuncts) grouping exprs distinct) (map planned_source sources)
  written-means sources conjuncts grouping exprs distinct sound =
      let staged_sources = map (plan_source_meaning tables) (written_stages 0 sources) in
      let plain = map condition_of (plain_conjuncts conjuncts) in
      let others = conditions_in (means_of (other_conjuncts conjuncts)) in
      let core = core_of (means_of conjuncts) grouping exprs distinct in
      let joined : joined_behind (map (λ (s : Staged). s.side) staged_sources) ([] ∷ []) ≡ from_rows (map planned_source sources) =
      joins-mean 0 (map planned_source sources) (map (λ (s : Staged). s.side) staged_sources) (sides-written 0 sources sound) ([] ∷ []) (refl, tt) in
      let conditions : plain ++ others ≡ plain_first core.conjuncts = ap₂ ◌++◌ (sym (plain-are conjuncts)) (sym (others-are conjuncts)) in
      fold-roll-PlanCore Meant (Found Row) (Found Row) (Found Row) (Found Row) Staged plan_conjunct_meant (input_found tables) plan_rows_found plan_core_found plan_select_found staged (record { sources = written_stages 0 sources; plain = plain_conjuncts conjuncts; others = other_conjuncts conjuncts; grouping = grouping; items = exprs; distinct = distinct })
      ∙ (λ i. unless_faulted (faults-written 0 sources i ++ sym (faults-are conjuncts) i) (above_where core (and_then (joined i) (filtered (conditions i)))))

  -- ---- a free FROM

  abbrev pub given_of : Counts → SourcePlan → Given
  given_of counts source = record { table = free_table counts source; rows = (plan_input_meaning tables source.input).rows }

  index-map : {A B : Type 0} (f : A → B) (xs : List A) (n : ℕ) (d : A) → slice_index_or (map f xs) n (f d) ≡ f (slice_index_or xs n d)
  index-map f [] n d = refl
  index-map f (x ∷ xs) zero d = refl
  index-map f (x ∷ xs) (suc n) d = index-map f xs n d

  index-holds : {A : Type 0} (P : A → Type 0) (xs : List A) (n : ℕ) (d : A) → AllByRecursion P xs → P d → P (slice_index_or xs n d)
  index-holds P [] n d all here = here
  index-holds P (x ∷ xs) zero d all here = all.0
  index-holds P (x ∷ xs) (suc n) d all here = index-holds P xs n d all.1 here

  tables-of-givens : (counts : Counts) (sources : List SourcePlan) → tables_given (map (given_of counts) sources) ≡ free_tables counts sources
  tables-of-givens counts [] = refl
  tables-of-givens counts (source ∷ sources) = ap (λ l. free_table counts source ∷ l) (tables-of-givens counts sources)

  module _ (counts : Counts) (first : SourcePlan) (rest : List SourcePlan) where
    abbrev all_sources : List SourcePlan
    all_sources = first ∷ rest

    abbrev givens : List Given
    givens = map (given_of counts) all_sources

    abbrev at_entry : Entry → SourcePlan
    at_entry = source_at first rest

    sides-free : (places : List ℕ) (at : ℕ) (entries : List Entry) (es : List Expr)
        → map (λ (s : Staged). s.side) (map (plan_source_meaning tables) (free_stages at_entry places at entries es)) ≡ sides_from (rows_given givens) places at entries es
    sides-free places at [] es = refl
    sides-free places at (entry ∷ entries) es =
        let parts = split at entry.width (map (moved places) (ready places (at + entry.width) es)) [] in
        ap₂ ◌∷◌ (ap (λ (s : Staged). s.side) (source-meant (record (at_entry entry) { width = entry.width; pads = false }) parts)
        ∙ ap (λ (given : Given). join_side given.rows entry.width false parts) (sym (index-map (given_of counts) all_sources entry.place first)))
        (sides-free places (at + entry.width) entries (later places (at + entry.width) es))

    faults-free : (places : List ℕ) (at : ℕ) (entries : List Entry) (es : List Expr) → AllByRecursion (λ (s : SourcePlan). (plan_input_meaning tables s.input).faults ≡ []) all_sources
        → flat_map (λ (s : Staged). s.found.faults) (map (plan_source_meaning tables) (free_stages at_entry places at entries es)) ≡ []
    faults-free places at [] es clean_all = refl
    faults-free places at (entry ∷ entries) es clean_all =
        let parts = split at entry.width (map (moved places) (ready places (at + entry.width) es)) [] in
        ap₂ ◌++◌ (ap (λ (s : Staged). s.found.faults) (source-meant (record (at_entry entry) { width = entry.width; pads = false }) parts)
        ∙ index-holds (λ (s : SourcePlan). (plan_input_meaning tables s.input).faults ≡ []) all_sources entry.place first clean_all clean_all.0)
        (faults-free places (at + entry.width) entries (later places (at + entry.width) es) clean_all)

  -- what is moved says of a row what it said of the row with its columns put back
  moved-says : (places : List ℕ) (conjunct : PlanConjunct) (row : Row) → (plan_conjunct_meaning tables (moved_conjunct places conjunct)).condition.says row ≡ (plan_conjunct_meaning tables conjunct).condition.says (put_back places row)
  moved-says places conjunct row = go (out-PlanConjunct conjunct) refl
    where
      go : (x : PlanConjunct-F PlanConjunct PlanInput PlanRows PlanCore PlanSelect PlanSource) → out-PlanConjunct conjunct ≡ x → (plan_conjunct_meaning tables (moved_in places (out-PlanConjunct conjunct))).condition.says row ≡ (plan_conjunct_meaning tables conjunct).condition.says (put_back places row)
      go (PlanConjunct-F.Condition e) is =
          ap (λ x. (plan_conjunct_meaning tables (moved_in places x)).condition.says row) is
          ∙ ap (λ (m : Meant). m.condition.says row) (fold-roll-PlanConjunct Meant (Found Row) (Found Row) (Found Row) (Found Row) Staged plan_conjunct_meant (input_found tables) plan_rows_found plan_core_found plan_select_found staged (PlanConjunct-F.Condition (moved places e)))
          ∙ moved-value places row e
          ∙ sym (ap (λ (m : Meant). m.condition.says (put_back places row)) (conjunct-is conjunct (PlanConjunct-F.Condition e) is))
      go (PlanConjunct-F.Member e query negated) is =
          ap (λ x. (plan_conjunct_meaning tables (moved_in places x)).condition.says row) is
          ∙ ap (λ (m : Meant). m.condition.says row) (fold-roll-PlanConjunct Meant (Found Row) (Found Row) (Found Row) (Found Row) Staged plan_conjunct_meant (input_found tables) plan_rows_found plan_core_found plan_select_found staged (PlanConjunct-F.Member (moved places e) query negated))
          ∙ ap (member_says negated (map (value_at 0) (plan_meaning tables query).rows)) (moved-value places row e)
          ∙ sym (ap (λ (m : Meant). m.condition.says (put_back places row)) (conjunct-is conjunct (PlanConjunct-F.Member e query negated) is))

  moved-faults : (places : List ℕ) (conjunct : PlanConjunct) → (plan_conjunct_meaning tables (moved_conjunct places conjunct)).faults ≡ (plan_conjunct_meaning tables conjunct).faults
  moved-faults places conjunct = go (out-PlanConjunct conjunct) refl
    where
      go : (x : PlanConjunct-F PlanConjunct PlanInput PlanRows PlanCore PlanSelect PlanSource) → out-PlanConjunct conjunct ≡ x → (plan_conjunct_meaning tables (moved_in places (out-PlanConjunct conjunct))).faults ≡ (plan_conjunct_meaning tables conjunct).faults
      go (PlanConjunct-F.Condition e) is =
          ap (λ x. (plan_conjunct_meaning tables (moved_in places x)).faults) is
          ∙ ap (λ (m : Meant). m.faults) (fold-roll-PlanConjunct Meant (Found Row) (Found Row) (Found Row) (Found Row) Staged plan_conjunct_meant (input_found tables) plan_rows_found plan_core_found plan_select_found staged (PlanConjunct-F.Condition (moved places e)))
          ∙ sym (ap (λ (m : Meant). m.faults) (conjunct-is conjunct (PlanConjunct-F.Condition e) is))
      go (PlanConjunct-F.Member e query negated) is =
          ap (λ x. (plan_conjunct_meaning tables (moved_in places x)).faults) is
          ∙ ap (λ (m : Meant). m.faults) (fold-roll-PlanConjunct Meant (Found Row) (Found Row) (Found Row) (Found Row) Staged plan_conjunct_meant (input_found tables) plan_rows_found plan_core_found plan_select_found staged (PlanConjunct-F.Member (moved places e) query negated))
          ∙ sym (ap (λ (m : Meant). m.faults) (conjunct-is conjunct (PlanConjunct-F.Member e query negated) is))

  all-said : (places : List ℕ) (conjuncts : List PlanConjunct) → AreSaid (put_back places) (conditions_in (means_of conjuncts)) (conditions_in (means_of (map (moved_conjunct places) conjuncts)))
  all-said places [] = tt
  all-said places (c ∷ conjuncts) = (moved-says places c, all-said places conjuncts)

  faults-moved : (places : List ℕ) (conjuncts : List PlanConjunct) → faults_in (means_of (map (moved_conjunct places) conjuncts)) ≡ faults_in (means_of conjuncts)
  faults-moved places [] = refl
  faults-moved places (c ∷ conjuncts) = ap₂ ◌++◌ (moved-faults places c) (faults-moved places conjuncts)

  values-moved : (places : List ℕ) (es : List Expr) → AreRenamedValues (put_back places) (map row_value_of es) (map row_value_of (map (moved places) es))
  values-moved places [] = tt
  values-moved places (e ∷ es) = ((λ row. moved-value places row e), values-moved places es)

  aggregates-moved : (places : List ℕ) (aggregates : List Aggregate) → AreRenamedAggregates (put_back places) (map aggregation_of aggregates) (map aggregation_of (map (moved_aggregate places) aggregates))
  aggregates-moved places [] = tt
  aggregates-moved places (aggregate ∷ aggregates) = (one aggregate.of, aggregates-moved places aggregates)
    where
      one : (of : Option Expr) → IsRenamedAggregate (put_back places) (aggregation_of (record { kind = aggregate.kind; of = of; result = aggregate.result })) (aggregation_of (record { kind = aggregate.kind; of = option_map (moved places) of; result = aggregate.result }))
      one None = record { kind = refl; scale = refl; distinct = refl; of = tt }
      one (Some e) = record { kind = refl; scale = ap scale_of (moved-kind places e); distinct = refl; of = λ row. moved-value places row e }

  above-moved : (places : List ℕ) (ms ns : List Meant) (grouping : Option BoundGrouping) (exprs : List Expr) (distinct : Bool)
      → IsRenamedAbove (put_back places) (core_of ms grouping exprs distinct) (core_of ns (option_map (moved_grouping places) grouping) (moved_items places grouping exprs) distinct)
      (option_map grouping_of grouping) (option_map grouping_of (option_map (moved_grouping places) grouping))
  above-moved places ms ns None exprs distinct = (tt, values-moved places exprs)
  above-moved places ms ns (Some grouping) exprs distinct = (values-moved places grouping.keys, aggregates-moved places grouping.aggregates, refl, refl)

  -- plain conjuncts of WHERE: they have values, and name columns that are there
  pub free-means : (counts : Counts) (first : SourcePlan) (rest : List SourcePlan) (conjuncts : List PlanConjunct) (grouping : Option BoundGrouping) (exprs : List Expr) (distinct : Bool)
      → AreGiven 0 (map (given_of counts) (first ∷ rest)) → AllByRecursion (λ (s : SourcePlan). (plan_input_meaning tables s.input).faults ≡ []) (first ∷ rest)
      → AllByRecursion (λ e. IsPlainCondition (condition_of e)) (plain_conjuncts conjuncts) → AllByRecursion (λ e. top e ≤ total_width (map (given_of counts) (first ∷ rest))) (plain_conjuncts conjuncts)
      → IsSame (plan_core_meaning tables (free_core counts first rest conjuncts grouping exprs distinct)) (selected (core_of (means_of conjuncts) grouping exprs distinct) (map source_of (map (given_of counts) (first ∷ rest))))
  free-means counts first rest conjuncts grouping exprs distinct are clean_all sure within =
      let given_list = map (given_of counts) (first ∷ rest) in
      let plain = plain_conjuncts conjuncts in
      let others = other_conjuncts conjuncts in
      let tabs = free_tables counts (first ∷ rest) in
      let same_tables : tables_given given_list ≡ tabs = tables-of-givens counts (first ∷ rest) in
      let places = places_of_plan tabs plain in
      let entries = items (picks_of tabs plain) in
      let core = core_of (means_of conjuncts) grouping exprs distinct in
      let left = conditions_in (means_of (map (moved_conjunct places) others)) in
      let planned = core_of (means_of (map (moved_conjunct places) others)) (option_map (moved_grouping places) grouping) (moved_items places grouping exprs) distinct in
      let said : AreSaid (put_back places) (filter (λ c. not (is_plain c)) core.conjuncts) left =
      subst (λ cs. AreSaid (put_back places) cs left) (sym (others-are conjuncts)) (all-said places others) in
      let whole = free_stages_mean core (map source_of given_list)
      (sides_from (rows_given given_list) (plan_places given_list plain) 0 (plan_entries given_list plain) (named (tables_given given_list) plain))
      (plan_loops given_list plain) (map condition_of (map (moved (plan_places given_list plain)) (bare (tables_given given_list) plain))) left planned
      (stages-are-loops (rows_given given_list) (plan_places given_list plain) 0 (plan_entries given_list plain) (named (tables_given given_list) plain)
      (all-kept (λ e. (row : Row) → IsFaultless (value_of row e)) names_columns (pool_of (tables_given given_list) plain) (pool-sure given_list plain are sure within)))
      (plan-free given_list plain are sure within core left planned (plain-are conjuncts)
      (subst (λ (tabs : List FreeTable). AreSaid (put_back (places_of_plan tabs plain)) (filter (λ c. not (is_plain c)) core.conjuncts) left) (sym same_tables) said)
      (subst (λ (tabs : List FreeTable). IsRenamedAbove (put_back (places_of_plan tabs plain)) core planned core.grouping planned.grouping) (sym same_tables) (above-moved places (means_of conjuncts) (means_of (map (moved_conjunct places) others)) grouping exprs distinct))
      refl) in
      let sides : map (λ (s : Staged). s.side) (map (plan_source_meaning tables) (free_stages (source_at first rest) places 0 entries (named tabs plain)))
      ≡ sides_from (rows_given given_list) (plan_places given_list plain) 0 (plan_entries given_list plain) (named (tables_given given_list) plain) =
      sides-free counts first rest places 0 entries (named tabs plain)
      ∙ ap (λ (tabs : List FreeTable). sides_from (rows_given given_list) (places_of_plan tabs plain) 0 (items (picks_of tabs plain)) (named tabs plain)) (sym same_tables) in
      let bares : map condition_of (map (moved places) (bare tabs plain)) ≡ map condition_of (map (moved (plan_places given_list plain)) (bare (tables_given given_list) plain)) =
      ap (λ (tabs : List FreeTable). map condition_of (map (moved (places_of_plan tabs plain)) (bare tabs plain))) (sym same_tables) in
      let inner : faults_in (means_of (map (moved_conjunct places) others)) ≡ core.inner = faults-moved places others ∙ sym (faults-are conjuncts) in
      let is : plan_core_meaning tables (free_core counts first rest conjuncts grouping exprs distinct)
      ≡ unless_faulted core.inner (above_where planned (and_then (joined_behind (sides_from (rows_given given_list) (plan_places given_list plain) 0 (plan_entries given_list plain) (named (tables_given given_list) plain)) ([] ∷ []))
      (filtered (map condition_of (map (moved (plan_places given_list plain)) (bare (tables_given given_list) plain)) ++ left)))) =
      fold-roll-PlanCore Meant (Found Row) (Found Row) (Found Row) (Found Row) Staged plan_conjunct_meant (input_found tables) plan_rows_found plan_core_found plan_select_found staged (record {
        sources = free_stages (source_at first rest) places 0 entries (named tabs plain);
        plain = map (moved places) (bare tabs plain);
        others = map (moved_conjunct places) others;
        grouping = option_map (moved_grouping places) grouping;
        items = moved_items places grouping exprs;
        distinct = distinct;
      })
      ∙ (λ i. unless_faulted (faults-free counts first rest places 0 entries (named tabs plain) clean_all i ++ inner i) (above_where planned (and_then (joined_behind (sides i) ([] ∷ [])) (filtered (bares i ++ left))))) in
      subst (λ found. IsSame found (selected core (map source_of given_list))) (sym is) whole

  -- ---- both

  total-columns : (counts : Counts) (sources : List SourcePlan) → total_width (map (given_of counts) sources) ≡ columns_planned sources
  total-columns counts [] = refl
  total-columns counts (source ∷ sources) = ap (λ n. source.width + n) (total-columns counts sources)

  free-parts : (source : SourcePlan) → is_free_source source ≡ true → (is_some (table_of source.input) ≡ true) × (source.pads ≡ false) × (list_all is_plain_expr source.on ≡ true)
  free-parts source free =
      let rest = and-right (is_some (table_of source.input)) (not source.pads && list_all is_plain_expr source.on) free in (
        and-left (is_some (table_of source.input)) (not source.pads && list_all is_plain_expr source.on) free,
        not-true source.pads (and-left (not source.pads) (list_all is_plain_expr source.on) rest),
        and-right (not source.pads) (list_all is_plain_expr source.on) rest,
      )
    where
      not-true : (b : Bool) → not b ≡ true → b ≡ false
      not-true true e = cc
      not-true false e = refl

  all-plain-sure : (es : List Expr) → list_all is_plain_expr es ≡ true → AllByRecursion IsSure es → AllByRecursion (λ e. IsPlainCondition (condition_of e)) es
  all-plain-sure [] plain sure = tt
  all-plain-sure (e ∷ es) plain sure =
      (sure.0 (and-left (is_plain_expr e) (list_all is_plain_expr es) plain), all-plain-sure es (and-right (is_plain_expr e) (list_all is_plain_expr es) plain) sure.1)

  givens-sound : (counts : Counts) (at : ℕ) (sources : List SourcePlan) → is_free sources ≡ true → AreSoundSources at sources → AreGiven at (map (given_of counts) sources)
  givens-sound counts at [] free sound = tt
  givens-sound counts at (source ∷ sources) free sound =
      let parts = free-parts source (and-left (is_free_source source) (is_free sources) free) in
      (sound.0, (all-plain-sure source.on parts.2 sound.1.1.0, (sound.1.0, givens-sound counts (at + source.width) sources (and-right (is_free_source source) (is_free sources) free) sound.1.1.1)))

  givens-sources : (counts : Counts) (sources : List SourcePlan) → is_free sources ≡ true → map source_of (map (given_of counts) sources) ≡ map planned_source sources
  givens-sources counts [] free = refl
  givens-sources counts (source ∷ sources) free =
      let parts = free-parts source (and-left (is_free_source source) (is_free sources) free) in
      ap₂ ◌∷◌ (λ i. record { found = sym (table-meant source.input parts.0) i; width = source.width; pads = sym parts.1 i; on = map condition_of source.on })
      (givens-sources counts sources (and-right (is_free_source source) (is_free sources) free))

  free-clean : (sources : List SourcePlan) → is_free sources ≡ true → AllByRecursion (λ (s : SourcePlan). (plan_input_meaning tables s.input).faults ≡ []) sources
  free-clean [] free = tt
  free-clean (source ∷ sources) free =
      let parts = free-parts source (and-left (is_free_source source) (is_free sources) free) in
      (ap (λ (found : Found Row). found.faults) (table-meant source.input parts.0), free-clean sources (and-right (is_free_source source) (is_free sources) free))

  pub core-planned : (counts : Counts) (sources : List SourcePlan) (conjuncts : List PlanConjunct) (grouping : Option BoundGrouping) (exprs : List Expr) (distinct : Bool) → AreSoundSources 0 sources
      → AllByRecursion (λ e. IsPlainCondition (condition_of e)) (plain_conjuncts conjuncts) → AllByRecursion (λ e. top e ≤ columns_planned sources) (plain_conjuncts conjuncts)
      → IsSame (plan_core_meaning tables (planned_core counts sources conjuncts grouping exprs distinct)) (selected (core_of (means_of conjuncts) grouping exprs distinct) (map planned_source sources))
  core-planned counts [] conjuncts grouping exprs distinct sound sure within =
      subst (λ found. IsSame (plan_core_meaning tables (written_core [] conjuncts grouping exprs distinct)) found) (written-means [] conjuncts grouping exprs distinct sound)
      (same-refl (plan_core_meaning tables (written_core [] conjuncts grouping exprs distinct)))
  core-planned counts (first ∷ rest) conjuncts grouping exprs distinct sound sure within = go (is_free (first ∷ rest)) refl
    where
      go : (b : Bool) → is_free (first ∷ rest) ≡ b
          → IsSame (plan_core_meaning tables (cond b (free_core counts first rest conjuncts grouping exprs distinct) (written_core (first ∷ rest) conjuncts grouping exprs distinct))) (selected (core_of (means_of conjuncts) grouping exprs distinct) (map planned_source (first ∷ rest)))
      go true free =
          let total = total-columns counts (first ∷ rest) in
          subst (λ ss. IsSame (plan_core_meaning tables (free_core counts first rest conjuncts grouping exprs distinct)) (selected (core_of (means_of conjuncts) grouping exprs distinct) ss)) (givens-sources counts (first ∷ rest) free)
          (free-means counts first rest conjuncts grouping exprs distinct (givens-sound counts 0 (first ∷ rest) free sound) (free-clean (first ∷ rest) free) sure
          (all-on (λ e. top e ≤ columns_planned (first ∷ rest)) (λ e. top e ≤ total_width (map (given_of counts) (first ∷ rest))) (λ e h. omega arith) (plain_conjuncts conjuncts) within))
      go false free =
          subst (λ found. IsSame (plan_core_meaning tables (written_core (first ∷ rest) conjuncts grouping exprs distinct)) found) (written-means (first ∷ rest) conjuncts grouping exprs distinct sound)
          (same-refl (plan_core_meaning tables (written_core (first ∷ rest) conjuncts grouping exprs distinct)))
