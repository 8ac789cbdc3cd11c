-- A core put together of its clauses, set operations, and a SELECT whole.
use Rattle.std.proofs.Common.{◌≡◌, ℕ, ◌≤◌, Bool, true, List, [], ◌∷◌, ◌++◌, map, length, refl, sym, ap, ◌∙◌, subst, Option, Ok, arith}
use Rattle.std.specs.Prelude.{is_some}
use Rattle.std.specs.List.{AllByRecursion}
use Rattle.sql_expr.specs.declared.tree.Expr.{Expr as Tree}
use Rattle.bound_tree.specs.declared.kinds.JoinKind.{JoinKind}
use Rattle.bound_tree.specs.declared.kinds.JoinKind.TheVariants.{First}
use Rattle.bound_tree.specs.declared.select.BoundSource.{BoundSource}
use Rattle.bound_tree.specs.declared.select.BoundRows.TheViews.{out-BoundSource}
use Rattle.sql_scope.specs.declared.scope.ScopeColumn.{ScopeColumn}
use Rattle.sql_scope.specs.Answer.{◌>>=◌}
use Rattle.sql_scope.specs.Scopes.{View, columns_of, kinds, over_columns, over_keys}
use Rattle.sql_clauses.specs.declared.cores.NamedRows.{NamedRows}
use Rattle.sql_clauses.specs.declared.rows.Unordered.{Unordered}
use Rattle.sql_clauses.specs.declared.sources.Sources.{Sources}
use Rattle.sql_clauses.specs.Rows.{combined, finished_rows, select_of}
use Rattle.bind_rules.specs.declared.cores.Filtered.{Filtered}
use Rattle.bind_rules.specs.declared.cores.Shown.{Shown}
use Rattle.bind_rules.specs.Bindings.{ExprBinding, ConditionBinding, RowsBinding, ItemBinding, SetBinding, SourceBinding, JoinBinding}
use Rattle.bind_rules.specs.Cores as cores
use Rattle.bind_rules.specs.Expressions.{some_of}
use Rattle.bind_rules.specs.From.{begun}
use Rattle.bind_rules.specs.Selects as selects
use Rattle.bind_rules.specs.Selects.{SelectNode}
use Rattle.well_formed.specs.Exprs.{IsExpr}
use Rattle.well_formed.specs.From.{BeginsOnce, IsFirst, IsFrom, IsLater, names_of}
use Rattle.well_formed.specs.Given.{kinds_of_sources}
use Rattle.well_formed.specs.Names.{AreApart}
use Rattle.formed_binding.specs.Answers.{OfAnswer}
use Rattle.formed_binding.specs.Keeps.{EachOf, HasSchemas, IfCondition, OfExpr, OfItem, OfJoin, OfRows, OfSelect, OfSet, OfSource}
use Rattle.formed_binding.specs.Named.{AreNamed, AreUnordered, IsSelected}
use Rattle.formed_binding.specs.Parts.{IsView}
use Rattle.formed_binding.specs.Placed.{Placed, all_of, are_different, if_there}
use Rattle.formed_binding.specs.Sources.{AreAll, AreJoinedAs}
use Rattle.formed_binding.proofs.ClauseLemmas.{IsChosen, IsFilteredOver, filtered-kept, joins-later, joins_of, keys-kept, selected-kept, sources-kept}
use Rattle.formed_binding.proofs.CoreLemmas.{core-formed}
use Rattle.formed_binding.proofs.EachLemmas.{each-of, on-answer, whenever}
use Rattle.formed_binding.proofs.GatherLemmas.{length-map}
use Rattle.formed_binding.proofs.OrderLemmas.{select-formed}
use Rattle.formed_binding.proofs.SetLemmas.{combined-named}
use Rattle.formed_binding.proofs.SourceLemmas.{append-nothing}

-- ---- the sources, joined

abbrev join_of : BoundSource → JoinKind
join_of s = (out-BoundSource s).join

later-all : (sources : List BoundSource) (ks : List JoinKind) → map join_of sources ≡ ks → AllByRecursion IsLater ks → AllByRecursion (λ (s : BoundSource). IsLater (out-BoundSource s).join) sources
later-all [] ks is all = tt
later-all (s ∷ sources) [] is all = cc
later-all (s ∷ sources) (k ∷ ks) is all =
    let first : join_of s ≡ k = cc in
    let rest : map join_of sources ≡ ks = cc in
    (subst IsLater (sym first) all.0, later-all sources ks rest all.1)

begins : (sources : List BoundSource) (ks : List JoinKind) → map join_of sources ≡ First ∷ ks → AllByRecursion IsLater ks → BeginsOnce sources
begins [] ks is all = cc
begins (s ∷ sources) ks is all =
    let first : join_of s ≡ First = cc in
    let rest : map join_of sources ≡ ks = cc in
    (subst IsFirst (sym first) tt, later-all sources ks rest all)

whole-from : (view : View) (names : List (List ℕ)) (ks : List JoinKind) (sources : List BoundSource) → AreApart names → length names ≤ 8 → length (kinds view) ≤ 64 → AllByRecursion IsLater ks
    → AreJoinedAs view names (First ∷ ks) [] (record { joined = sources; rest = []; columns = length (kinds view); behind = 0 }) → IsFrom view.limit sources
whole-from view names ks sources apart few narrow later are =
    let called : names_of sources ≡ names = sym (append-nothing (names_of sources)) ∙ are.called in
    let by : map join_of sources ≡ First ∷ ks = sym (append-nothing (map join_of sources)) ∙ are.by in
    let seen : kinds view ≡ kinds_of_sources sources = are.whole ∙ append-nothing (kinds_of_sources sources) in
    let long : length (names_of sources) ≡ length names = ap length called in
    let same : length (names_of sources) ≡ length sources = length-map (λ (s : BoundSource). (out-BoundSource s).name) sources in
    let wide : length (kinds view) ≡ length (kinds_of_sources sources) = ap length seen in
    record {
      first = begins sources ks by later;
      names = subst AreApart (sym called) apart;
      few = omega arith;
      narrow = omega arith;
      joined = are.done;
    }

-- ---- cores

module _ (view : View) (schemas : HasSchemas view) (place : ℕ) (distinct grouped : Bool) (items : List ItemBinding) (joins : List JoinBinding) (filter : Option ConditionBinding) (group : List ExprBinding) (having : Option ConditionBinding)
    (item_places group_places : List Placed) (filter_calls : List ℕ) (having_places : Option Placed) (all : AllByRecursion OfJoin joins) (of_filter : IfCondition filter filter_calls) (of_group : EachOf OfExpr group group_places) (of_items : EachOf OfItem items item_places)
    (of_having : IfCondition having (if_there having_places).calls) (to_items : some_of (selects.aggregates_of view.script) items ≡ true → grouped ≡ true) (to_having : is_some having ≡ true → grouped ≡ true)
    (different : are_different ((all_of item_places).calls ++ (if_there having_places).calls) ≡ true) where
  abbrev ks : List JoinKind
  ks = joins_of joins all

  core-kept : (sources : Sources) → AreAll view sources (First ∷ ks) → OfAnswer (AreUnordered view.limit (columns_of view.tables)) (selects.core_over place distinct view grouped items joins filter group having sources)
  core-kept sources are =
      let seen = over_columns view sources.columns in
      let sees : IsView seen = record { tables = schemas; proper = are.are.proper } in
      let names = names_of sources.list in
      let Formed : Unordered → Type 0 = AreUnordered view.limit (columns_of view.tables) in
      let wide : length (kinds seen) ≡ length sources.columns = length-map (λ (c : ScopeColumn). c.kind) sources.columns in
      let narrow : length (kinds seen) ≤ 64 = let n = are.narrow in omega arith in
      let long : length names ≡ length sources.list = length-map (λ (s : BoundSource). (out-BoundSource s).name) sources.list in
      let few : length names ≤ 8 = let n = are.few in omega arith in
      on-answer (IsFilteredOver seen names (First ∷ ks) sees refl) Formed (selects.filtered_over seen joins filter (begun sources))
      (λ (f : Filtered). selects.shown_over seen grouped items group having >>= cores.bound_core place distinct grouped sources.columns f)
      (filtered-kept seen names (First ∷ ks) sees refl joins filter filter_calls (begun sources) all of_filter (record {
        done = tt;
        whole = are.are.kinds;
        width = sym wide;
        more = sym wide ∙ ap length are.are.kinds;
        well = tt;
        well_rest = are.are.well;
        called = refl;
        by = are.are.joins;
        by_rest = are.are.joins;
      }))
      (λ f filtered. on-answer (λ (s : Shown). AllByRecursion (IsExpr view.limit (kinds seen)) s.keys × IsChosen (over_keys seen s.keys) grouped s.selected) Formed (selects.shown_over seen grouped items group having) (cores.bound_core place distinct grouped sources.columns f)
      (on-answer (AllByRecursion (IsExpr view.limit (kinds seen))) (λ (s : Shown). AllByRecursion (IsExpr view.limit (kinds seen)) s.keys × IsChosen (over_keys seen s.keys) grouped s.selected) (selects.keys_over seen group)
      (λ (keys : List Tree). selects.selected_over seen grouped items having keys >>= cores.with_selected keys)
      (keys-kept seen (Ok []) group group_places sees refl of_group tt)
      (λ keys formed. on-answer (IsChosen (over_keys seen keys) grouped) (λ (s : Shown). AllByRecursion (IsExpr view.limit (kinds seen)) s.keys × IsChosen (over_keys seen s.keys) grouped s.selected) (selects.selected_over seen grouped items having keys) (cores.with_selected keys)
      (selected-kept (over_keys seen keys) grouped items having item_places having_places (record { tables = schemas; proper = are.are.proper }) of_items of_having to_items to_having different)
      (λ selected chosen. (formed, chosen))))
      (λ shown h. core-formed view
      (record { place = place; distinct = distinct; sources = f.sources; columns = sources.columns; conjuncts = f.conjuncts; grouped = grouped; keys = shown.keys; selected = shown.selected })
      (record {
        from = whole-from seen names ks f.sources are.are.names few narrow (joins-later joins all) filtered.joined;
        sources = filtered.joined.well;
        seen = filtered.joined.whole ∙ append-nothing (kinds_of_sources f.sources);
        conjuncts = filtered.conjuncts;
        keys = h.0;
        shown = h.1.0;
        unmixed = h.1.1;
      })))

  pub whole-core : (first : SourceBinding) → OfSource first
      → OfAnswer (AreUnordered view.limit (columns_of view.tables)) (selects.sources_of view first joins >>= selects.core_over place distinct view grouped items joins filter group having)
  whole-core first of =
      on-answer (λ s. AreAll view s (First ∷ ks)) (AreUnordered view.limit (columns_of view.tables)) (selects.sources_of view first joins) (selects.core_over place distinct view grouped items joins filter group having)
      (sources-kept view schemas first joins of all) core-kept

-- ---- set operations, and the SELECT whole

module _ (view : View) (schemas : HasSchemas view) where
  abbrev Named : NamedRows → Type 0
  Named = AreNamed view.limit (columns_of view.tables)

  abbrev Rows : Unordered → Type 0
  Rows = AreUnordered view.limit (columns_of view.tables)

  named-kept : (rows : RowsBinding) → OfRows rows → OfAnswer Named (selects.operand_over view rows)
  named-kept rows of = on-answer Rows Named (rows.rows view) finished_rows (of view schemas) (λ found h. whenever Named (finished_rows found) h.finished)

  pub sets-kept : (first : RowsBinding) (others : List SetBinding) → OfRows first → AllByRecursion OfSet others → OfAnswer Rows (selects.operand_over view first >>= selects.sets_behind view others >>= cores.set)
  sets-kept first others of all =
      on-answer Named Rows (selects.operand_over view first >>= selects.sets_behind view others) cores.set
      (on-answer Named Named (selects.operand_over view first) (selects.sets_behind view others) (named-kept first of)
      (λ left h. each-of Named OfSet (selects.set_behind view) (Ok left) others h
      (λ other before each i. on-answer Named Named (selects.operand_over view other.right) (combined other.kind other.all other.place before) (named-kept other.right each)
      (λ right j. whenever Named (combined other.kind other.all other.place before right) (λ rows is. combined-named view.limit (columns_of view.tables) other.kind other.all other.place before right rows i j is))) all))
      (λ rows h. record { finished = λ named is. (let same : rows ≡ named = cc in subst Named same h); plain = omega arith; proper = h.proper })

pub whole-kept : (x : SelectNode) → OfRows x.rows → OfSelect (selects.select_step x)
whole-kept x of = λ view schemas. on-answer (AreUnordered view.limit (columns_of view.tables)) (IsSelected view.limit (columns_of view.tables)) (x.rows.rows view) (select_of view x.order x.limit x.offset) (of view schemas)
    (λ rows h. select-formed view.limit (columns_of view.tables) view x.order x.limit x.offset rows h)
