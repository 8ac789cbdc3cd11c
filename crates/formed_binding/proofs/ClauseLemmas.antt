-- What the clauses of a core keep, and rows and a SELECT whole.
use Rattle.std.proofs.Common.{◌≡◌, ℕ, zero, suc, ◌≤◌, Bool, true, false, List, [], ◌∷◌, ◌++◌, map, length, refl, sym, ap, subst, Option, Some, None, Ok, Err, arith}
use Rattle.std.specs.Prelude.{take, is_some}
use Rattle.std.specs.List.{AllByRecursion}
use Rattle.ooc_types.specs.declared.schema.SqlType.{SqlType}
use Rattle.sql_expr.specs.declared.tree.Expr.{Expr as Tree}
use Rattle.sql_expr.specs.Operations.{IsProper}
use Rattle.bound_tree.specs.declared.kinds.JoinKind.{JoinKind}
use Rattle.bound_tree.specs.declared.kinds.JoinKind.TheVariants.{First, Cross}
use Rattle.bound_tree.specs.declared.select.BoundSource.{BoundSource}
use Rattle.sql_scope.specs.declared.scope.ScopeColumn.{ScopeColumn}
use Rattle.sql_scope.specs.Answer.{Answer, ◌>>=◌, each}
use Rattle.sql_scope.specs.Scopes.{View, columns_of, front, kinds}
use Rattle.sql_clauses.specs.declared.cores.Selected.{Selected}
use Rattle.sql_clauses.specs.declared.items.Outputs.{Outputs}
use Rattle.sql_clauses.specs.declared.joins.Joined.{Joined}
use Rattle.sql_clauses.specs.declared.sources.Sources.{Sources}
use Rattle.sql_clauses.specs.Aggregates.{are_unmixed}
use Rattle.sql_clauses.specs.Conditions.{ended}
use Rattle.sql_clauses.specs.Cores.{unmixed, with_having}
use Rattle.sql_clauses.specs.Items.{no_outputs}
use Rattle.sql_clauses.specs.Joins.{join_on, join_plainly, on_width}
use Rattle.sql_clauses.specs.Rows.{with_key}
use Rattle.sql_clauses.specs.Sources.{all_sources, no_sources}
use Rattle.bind_rules.specs.declared.cores.Filtered.{Filtered}
use Rattle.bind_rules.specs.Bindings.{ExprBinding, ConditionBinding, ItemBinding, SourceBinding, JoinBinding}
use Rattle.bind_rules.specs.Cores as cores
use Rattle.bind_rules.specs.Expressions.{some_of}
use Rattle.bind_rules.specs.From.{join_kind}
use Rattle.bind_rules.specs.Selects as selects
use Rattle.well_formed.specs.Exprs.{IsExpr}
use Rattle.well_formed.specs.From.{IsLater, MayHave}
use Rattle.formed_binding.specs.Answers.{OfAnswer}
use Rattle.formed_binding.specs.Filters.{AreConjuncts, IsFilter}
use Rattle.formed_binding.specs.Items.{AreOutputs, AreShown}
use Rattle.formed_binding.specs.Keeps.{EachOf, HasSchemas, IfCondition, OfCondition, OfExpr, OfItem, OfJoin, OfSource}
use Rattle.formed_binding.specs.Parts.{IsPart, IsView}
use Rattle.formed_binding.specs.Placed.{Placed, all_of, are_different, count, if_there}
use Rattle.formed_binding.specs.Sources.{AreAll, AreJoinedAs, AreSources}
use Rattle.formed_binding.proofs.EachLemmas.{on-answer}
use Rattle.formed_binding.proofs.ExprLemmas.{once, sum}
use Rattle.formed_binding.proofs.Facts.{left-stands, no-calls, part-expr, right-stands}
use Rattle.formed_binding.proofs.ItemLemmas.{alone-next, having-next, none-shown, unmixed-next, without-next}
use Rattle.formed_binding.proofs.JoinLemmas.{joined-on, plainly-joined}
use Rattle.formed_binding.proofs.SourceLemmas.{all-there, append-assoc, append-nothing}
use Rattle.formed_binding.proofs.TableLemmas.{all-behind}
use Rattle.formed_binding.proofs.WhereLemmas.{ended-formed}

both-answers : {A : Type 0} (P Q : A → Type 0) (m : Answer A) → OfAnswer P m → OfAnswer Q m → OfAnswer (λ (a : A). P a × Q a) m
both-answers P Q (Err refusal) p q = tt
both-answers P Q (Ok a) p q = (p, q)

-- ---- the first columns alone

take-map : {A B : Type 0} (f : A → B) (n : ℕ) (xs : List A) → map f (take n xs) ≡ take n (map f xs)
take-map f zero [] = refl
take-map f zero (x ∷ xs) = refl
take-map f (suc n) [] = refl
take-map f (suc n) (x ∷ xs) = ap (λ rest. f x ∷ rest) (take-map f n xs)

take-all : {A : Type 0} (P : A → Type 0) (n : ℕ) (xs : List A) → AllByRecursion P xs → AllByRecursion P (take n xs)
take-all P zero [] all = tt
take-all P zero (x ∷ xs) all = tt
take-all P (suc n) [] all = tt
take-all P (suc n) (x ∷ xs) all = (all.0, take-all P n xs all.1)

front-kinds : (view : View) (n : ℕ) → kinds (front view n) ≡ take n (kinds view)
front-kinds view n = take-map (λ (c : ScopeColumn). c.kind) n view.columns

front-sees : (view : View) (n : ℕ) → IsView view → IsView (front view n)
front-sees view n sees = record { tables = sees.tables; proper = subst (AllByRecursion IsProper) (sym (front-kinds view n)) (take-all IsProper n (kinds view) sees.proper) }

-- ---- joins

pub cross-kept : (source : SourceBinding) → OfSource source → OfJoin (record { sources = λ view sources. source.sources view Cross sources; on = λ view joined. join_plainly joined })
cross-kept source of = record {
  kind = Cross;
  later = tt;
  sources = λ view sources joins schemas are. of view Cross sources joins schemas are;
  on = λ view names all left joined sees off are. plainly-joined view names all Cross left joined refl are;
}

may-have : (outer : Bool) (on : List Tree) → MayHave (join_kind outer) on
may-have true on = tt
may-have false on = tt

is-later : (outer : Bool) → IsLater (join_kind outer)
is-later true = tt
is-later false = tt

pub on-kept : (outer : Bool) (source : SourceBinding) (on : ConditionBinding) (calls : List ℕ) → OfSource source → OfCondition on calls
    → OfJoin (record { sources = λ view sources. source.sources view (join_kind outer) sources; on = λ view joined. on.test.part (front view (on_width joined)) >>= join_on on.place joined })
on-kept outer source on calls of test = record {
  kind = join_kind outer;
  later = is-later outer;
  sources = λ view sources joins schemas are. of view (join_kind outer) sources joins schemas are;
  on = λ view names all left joined sees off are.
      let seen = front view (on_width joined) in
      let f = on.test.aggregates view.script in
      on-answer (IsPart seen f (count calls)) (AreJoinedAs view names all left) (on.test.part seen) (join_on on.place joined) (test.part seen (front-sees view (on_width joined) sees))
      (λ part is. joined-on view names all (join_kind outer) left on.place joined part (may-have outer) are
      (subst (λ (k : List SqlType). IsExpr view.limit k part.tree) (front-kinds view (on_width joined)) (part-expr seen f (count calls) part is (no-calls seen f part.calls off is.calls))));
}

-- ---- all sources of a FROM

abbrev pub joins_of : (joins : List JoinBinding) → AllByRecursion OfJoin joins → List JoinKind
joins_of [] all = []
joins_of (join ∷ joins) all = all.0.kind ∷ joins_of joins all.1

pub joins-later : (joins : List JoinBinding) (all : AllByRecursion OfJoin joins) → AllByRecursion IsLater (joins_of joins all)
joins-later [] all = tt
joins-later (join ∷ joins) all = (all.0.later, joins-later joins all.1)

module _ (view : View) (schemas : HasSchemas view) where
  next-sources : (m : Answer Sources) (before : List JoinKind) (joins : List JoinBinding) (all : AllByRecursion OfJoin joins) → OfAnswer (λ s. AreSources view s before) m
      → OfAnswer (λ s. AreSources view s (before ++ joins_of joins all)) (each (selects.source_behind view) m joins)
  next-sources m before [] all h = subst (λ (k : List JoinKind). OfAnswer (λ s. AreSources view s k) m) (sym (append-nothing before)) h
  next-sources m before (join ∷ joins) all h =
      subst (λ (k : List JoinKind). OfAnswer (λ s. AreSources view s k) (each (selects.source_behind view) (m >>= selects.source_behind view join) joins)) (append-assoc before (all.0.kind ∷ []) (joins_of joins all.1))
      (next-sources (m >>= selects.source_behind view join) (before ++ all.0.kind ∷ []) joins all.1
      (on-answer (λ s. AreSources view s before) (λ s. AreSources view s (before ++ all.0.kind ∷ [])) m (selects.source_behind view join) h (λ s are. all.0.sources view s before schemas are)))

  pub sources-kept : (first : SourceBinding) (joins : List JoinBinding) → OfSource first → (all : AllByRecursion OfJoin joins) → OfAnswer (λ s. AreAll view s (First ∷ joins_of joins all)) (selects.sources_of view first joins)
  sources-kept first joins of all =
      let ks = First ∷ joins_of joins all in
      on-answer (λ s. AreSources view s ks) (λ s. AreAll view s ks) (first.sources view First no_sources >>= selects.sources_behind view joins) (all_sources first.place)
      (on-answer (λ s. AreSources view s (First ∷ [])) (λ s. AreSources view s ks) (first.sources view First no_sources) (selects.sources_behind view joins)
      (of view First no_sources [] schemas (record { names = tt; few = λ none. omega arith; kinds = refl; proper = tt; well = tt; joins = refl; plain = tt }))
      (λ s are. next-sources (Ok s) (First ∷ []) joins all are))
      (λ s are. all-there view first.place s ks are)

-- ---- ON and WHERE

module _ (view : View) (names : List (List ℕ)) (whole : List JoinKind) (sees : IsView view) (off : view.aggregates ≡ false) where
  next-ons : (m : Answer Joined) (joins : List JoinBinding) (all : AllByRecursion OfJoin joins) → OfAnswer (AreJoinedAs view names whole (joins_of joins all)) m → OfAnswer (AreJoinedAs view names whole []) (each (selects.on_behind view) m joins)
  next-ons m [] all h = h
  next-ons m (join ∷ joins) all h =
      next-ons (m >>= selects.on_behind view join) joins all.1
      (on-answer (AreJoinedAs view names whole (all.0.kind ∷ joins_of joins all.1)) (AreJoinedAs view names whole (joins_of joins all.1)) m (selects.on_behind view join) h
      (λ j are. all.0.on view names whole (joins_of joins all.1) j sees off are))

  conditions-kept : (filter : Option ConditionBinding) (calls : List ℕ) → IfCondition filter calls → OfAnswer (AreConjuncts view.limit (columns_of view.tables) (kinds view)) (selects.conjuncts_over view filter)
  conditions-kept None calls of = record { formed = tt; conjuncts = tt }
  conditions-kept (Some condition) calls of =
      on-answer (IsFilter view.limit (columns_of view.tables) (kinds view)) (AreConjuncts view.limit (columns_of view.tables) (kinds view)) (condition.test.filter view) (ended condition.place) (of.filter view sees off)
      (λ f is. ended-formed view.limit (columns_of view.tables) (kinds view) condition.place f is)

  pub record IsFilteredOver (filtered : Filtered) : Type 0 where
    pub joined : AreJoinedAs view names whole [] (record { joined = filtered.sources; rest = []; columns = length (kinds view); behind = 0 })
    pub conjuncts : AreConjuncts view.limit (columns_of view.tables) (kinds view) filtered.conjuncts

  settled : (joined rest : List BoundSource) (columns behind : ℕ) → AreJoinedAs view names whole [] (record { joined = joined; rest = rest; columns = columns; behind = behind })
      → AreJoinedAs view names whole [] (record { joined = joined; rest = []; columns = length (kinds view); behind = 0 })
  settled joined [] columns behind are = record { done = are.done; whole = are.whole; width = refl; more = refl; well = are.well; well_rest = tt; called = are.called; by = are.by; by_rest = refl }
  settled joined (s ∷ rest) columns behind are = let none = are.by_rest in cc

  pub filtered-kept : (joins : List JoinBinding) (filter : Option ConditionBinding) (calls : List ℕ) (start : Joined) (all : AllByRecursion OfJoin joins) → IfCondition filter calls
      → AreJoinedAs view names whole (First ∷ joins_of joins all) start → OfAnswer IsFilteredOver (selects.filtered_over view joins filter start)
  filtered-kept joins filter calls start all of are =
      on-answer (AreJoinedAs view names whole []) IsFilteredOver (join_plainly start >>= selects.ons_behind view joins) (λ (done : Joined). selects.conjuncts_over view filter >>= cores.with_conjuncts done)
      (on-answer (AreJoinedAs view names whole (joins_of joins all)) (AreJoinedAs view names whole []) (join_plainly start) (selects.ons_behind view joins) (plainly-joined view names whole First (joins_of joins all) start refl are)
      (λ j h. next-ons (Ok j) joins all h))
      (λ done h. on-answer (AreConjuncts view.limit (columns_of view.tables) (kinds view)) IsFilteredOver (selects.conjuncts_over view filter) (cores.with_conjuncts done) (conditions-kept filter calls of)
      (λ list are. record { joined = settled done.joined done.rest done.columns done.behind h; conjuncts = are }))

-- ---- GROUP BY

pub keys-kept : (view : View) (m : Answer (List Tree)) (group : List ExprBinding) (cs : List Placed) → IsView view → view.aggregates ≡ false → EachOf OfExpr group cs → OfAnswer (AllByRecursion (IsExpr view.limit (kinds view))) m
    → OfAnswer (AllByRecursion (IsExpr view.limit (kinds view))) (each (selects.key_over view) m group)
keys-kept view m [] cs sees off all h = h
keys-kept view m (key ∷ group) [] sees off all h = absurd all
keys-kept view m (key ∷ group) (c ∷ cs) sees off all h =
    let Are : List Tree → Type 0 = AllByRecursion (IsExpr view.limit (kinds view)) in
    let f = key.aggregates view.script in
    keys-kept view (m >>= selects.key_over view key) group cs sees off all.1
    (on-answer Are Are m (selects.key_over view key) h
    (λ before i. on-answer (IsPart view f (count c.calls)) Are (key.part view) (with_key before) (all.0.part view sees)
    (λ part is. all-behind (IsExpr view.limit (kinds view)) before part.tree i (part-expr view f (count c.calls) part is (no-calls view f part.calls off is.calls)))))

-- ---- the items and HAVING

items-kept : (view : View) (grouped : Bool) (done : List ℕ) (m : Answer Outputs) (items : List ItemBinding) (cs : List Placed) → IsView view → EachOf OfItem items cs → (some_of (selects.aggregates_of view.script) items ≡ true → grouped ≡ true)
    → OfAnswer (AreOutputs view grouped (count done)) m → OfAnswer (AreOutputs view grouped (count (done ++ (all_of cs).calls))) (each (selects.item_behind view grouped) m items)
items-kept view grouped done m [] [] sees all to h = subst (λ (places : List ℕ). OfAnswer (AreOutputs view grouped (count places)) m) (sym (append-nothing done)) h
items-kept view grouped done m [] (c ∷ cs) sees all to h = absurd all
items-kept view grouped done m (item ∷ items) [] sees all to h = absurd all
items-kept view grouped done m (item ∷ items) (c ∷ cs) sees all to h =
    subst (λ (places : List ℕ). OfAnswer (AreOutputs view grouped (count places)) (each (selects.item_behind view grouped) (m >>= selects.item_behind view grouped item) items)) (append-assoc done c.calls (all_of cs).calls)
    (items-kept view grouped (done ++ c.calls) (m >>= selects.item_behind view grouped item) items cs sees all.1 (λ e. to (right-stands (item.aggregates view.script) (some_of (selects.aggregates_of view.script) items) e))
    (on-answer (AreOutputs view grouped (count done)) (AreOutputs view grouped (count (done ++ c.calls))) m (selects.item_behind view grouped item) h
    (λ before are. all.0 view grouped done before sees (λ e. to (left-stands (item.aggregates view.script) (some_of (selects.aggregates_of view.script) items) e)) are)))

more-shown : (view : View) (grouped : Bool) (n k : ℕ → ℕ) (selected : Selected) → ((place : ℕ) → n place ≤ k place) → AreShown view grouped n selected → AreShown view grouped k selected
more-shown view grouped n k selected to are = record {
  outputs = record {
    typed = are.outputs.typed;
    short = are.outputs.short;
    proper = are.outputs.proper;
    columns = are.outputs.columns;
    plain = are.outputs.plain;
    calls = are.outputs.calls;
    counted = λ place. let a = are.outputs.counted place in let b = to place in omega arith;
    covered = are.outputs.covered;
  };
  having = are.having;
}

having-kept : (view : View) (grouped : Bool) (having : Option ConditionBinding) (done : List ℕ) (c : Option Placed) (outputs : Outputs) → IsView view → (is_some having ≡ true → grouped ≡ true) → IfCondition having (if_there c).calls
    → AreOutputs view grouped (count done) outputs → OfAnswer (AreShown view grouped (count (done ++ (if_there c).calls))) (selects.having_over view having outputs)
having-kept view grouped None done c outputs sees to of are =
    more-shown view grouped (count done) (count (done ++ (if_there c).calls)) (record { outputs = outputs; having = None }) (λ place. let s = sum done (if_there c).calls place in omega arith) (without-next view grouped (count done) outputs are)
having-kept view grouped (Some condition) done c outputs sees to of are =
    let f = condition.test.aggregates view.script in
    let n = count (done ++ (if_there c).calls) in
    on-answer (IsPart view f (count (if_there c).calls)) (AreShown view grouped n) (condition.test.part view) (with_having condition.place outputs) (of.part view sees)
    (λ part is. having-next view grouped f n (count done) (count (if_there c).calls) condition.place outputs part (to refl) are is (sum done (if_there c).calls))

abbrev pub IsChosen : View → Bool → Selected → Type 0
IsChosen view grouped selected = AreShown view grouped (λ place. 1) selected × (are_unmixed selected.outputs.calls ≡ true)

pub selected-kept : (view : View) (grouped : Bool) (items : List ItemBinding) (having : Option ConditionBinding) (cs : List Placed) (c : Option Placed) → IsView view → EachOf OfItem items cs → IfCondition having (if_there c).calls
    → (some_of (selects.aggregates_of view.script) items ≡ true → grouped ≡ true) → (is_some having ≡ true → grouped ≡ true) → are_different ((all_of cs).calls ++ (if_there c).calls) ≡ true
    → OfAnswer (IsChosen view grouped) (selects.outputs_over view grouped items >>= selects.having_over view having >>= unmixed)
selected-kept view grouped items having cs c sees all of to other different =
    let n = count ((all_of cs).calls ++ (if_there c).calls) in
    on-answer (AreShown view grouped n) (IsChosen view grouped) (selects.outputs_over view grouped items >>= selects.having_over view having) unmixed
    (on-answer (AreOutputs view grouped (count (all_of cs).calls)) (AreShown view grouped n) (selects.outputs_over view grouped items) (selects.having_over view having)
    (items-kept view grouped [] (Ok no_outputs) items cs sees all to (none-shown view grouped (count [])))
    (λ outputs are. having-kept view grouped having (all_of cs).calls c outputs sees other of are))
    (λ selected are.
    let few = more-shown view grouped n (λ place. 1) selected (once ((all_of cs).calls ++ (if_there c).calls) different) are in
    both-answers (AreShown view grouped (λ place. 1)) (λ (s : Selected). are_unmixed s.outputs.calls ≡ true) (unmixed selected) (unmixed-next view grouped (λ place. 1) selected few) (alone-next view grouped (λ place. 1) selected few))
