-- Clauses in the walk: what their parts were bound to makes what they are bound to.
use Rattle.std.proofs.Common.{◌≡◌, ℕ, Bool, List, sym, ap, subst, ◌∙◌}
use Rattle.std.specs.Prelude.{Some, Result}
use Rattle.bound_tree.specs.declared.kinds.JoinKind.{JoinKind}
use Rattle.bound_tree.specs.declared.select.BoundSelect.{BoundSelect}
use Rattle.bound_tree.specs.declared.select.Conjunct.{Conjunct}
use Rattle.sql_grammar.specs.declared.tree.expr.Span.{Span}
use Rattle.sql_grammar.specs.declared.tree.expr.Expr.{Expr}
use Rattle.sql_grammar.specs.declared.tree.select.Condition.{Condition}
use Rattle.sql_grammar.specs.declared.tree.select.Join.{Join}
use Rattle.sql_grammar.specs.declared.tree.select.Key.{Key}
use Rattle.sql_grammar.specs.declared.tree.select.Select.{Select}
use Rattle.sql_grammar.specs.declared.tree.select.Source.{Source}
use Rattle.sql_grammar.specs.declared.tree.select.Rows.{Rows}
use Rattle.sql_grammar.specs.declared.tree.expr.Argument.TheOpen.{Join-F, Source-F}
use Rattle.sql_grammar.specs.declared.tree.expr.Argument.TheViews.{out-Join, out-Source}
use Rattle.sql_scope.specs.declared.fault.BindFault.{BindFault}
use Rattle.sql_scope.specs.declared.part.Part.{Part}
use Rattle.sql_scope.specs.Answer.{Answer, Gives, GoesOn, GoesOnBoth, ◌>>=◌}
use Rattle.sql_scope.specs.Scopes.{View, front}
use Rattle.sql_scope.proofs.Going.{goes_on, goes_on_both}
use Rattle.sql_clauses.specs.declared.conditions.Filter.{Filter}
use Rattle.sql_clauses.specs.declared.cores.Selected.{Selected}
use Rattle.sql_clauses.specs.declared.items.Outputs.{Outputs}
use Rattle.sql_clauses.specs.declared.joins.Joined.{Joined}
use Rattle.sql_clauses.specs.declared.rows.Unordered.{Unordered}
use Rattle.sql_clauses.specs.declared.sources.Sources.{Sources}
use Rattle.sql_clauses.specs.Conditions.{ended}
use Rattle.sql_clauses.specs.Cores.{with_having}
use Rattle.sql_clauses.specs.Joins.{join_on, on_width}
use Rattle.sql_clauses.specs.Rows.{select_of}
use Rattle.sql_clauses.specs.Sources.{query_source}
use Rattle.bind_rules.specs.Bindings.{ConditionBinding, SelectBinding}
use Rattle.bind_rules.specs.Bound.{expr_binding, join_binding, select_binding, rows_binding, source_binding, conjuncts, selected}
use Rattle.bind_rules.specs.From.{width_of}
use Rattle.bind_rules.proofs.Going.{on_then, on_beside}
use Rattle.bind_rules.proofs.Nodes.{condition_is, select_is}
use Rattle.bind_rules.proofs.Steps.{part_at}
use Rattle.bind_rules.proofs.Arms.{on_goes, source_goes}

pub select_at : (view : View) (e lent : Select) (got : Result BoundSelect BindFault) → lent ≡ e → Gives ((select_binding lent).select view) got → Gives ((select_binding e).select view) got
select_at view e lent got is gives = subst (λ x. Gives ((select_binding x).select view) got) is gives

-- IN with a subquery, which begins at its own place
pub subquery_both : {B : Type 0} (view : View) (of : Answer Part) (f : ℕ → Part → BoundSelect → Answer B) (query lent : Select) (place : ℕ) (got : Result Part BindFault) (found : Result BoundSelect BindFault)
    (result : Result B BindFault) → lent ≡ query → place ≡ query.place → Gives of got → Gives ((select_binding lent).select view) found → GoesOnBoth (f place) got found result
    → Gives (of >>= (λ o. (select_binding query).select view >>= f (select_binding query).place o)) result
subquery_both view of f query lent place got found result is at gives given on =
    let same : place ≡ (select_binding query).place = at ∙ sym (ap (λ (b : SelectBinding). b.place) (select_is query)) in
    goes_on_both of ((select_binding query).select view) (f (select_binding query).place) got found result gives (select_at view query lent found is given)
    (subst (λ n. GoesOnBoth (f n) got found result) same on)

pub query_arm : (view : View) (join : JoinKind) (source : Source) (place : ℕ) (query lent : Select) (alias : Span) (before result : Result Sources BindFault) (found : Result BoundSelect BindFault)
    → out-Source source ≡ Source-F.Query place query alias → lent ≡ query → Gives ((select_binding lent).select view) found
    → GoesOnBoth (query_source view join place alias) before found result → GoesOn ((source_binding source).sources view join) before result
query_arm view join source place query lent alias before result found is at given on =
    source_goes view join source (Source-F.Query place query alias) before result is
    (on_beside ((select_binding query).select view) (query_source view join place alias) before found result (select_at view query lent found at given) on)

-- ON sees its own source and those before it
pub on_arm : (view over : View) (join : Join) (outer : Bool) (source : Source) (on : Condition) (lent : Expr) (before result : Result Joined BindFault) (part : Result Part BindFault)
    → out-Join join ≡ Join-F.On outer source on → lent ≡ on.test → over ≡ front view (width_of before) → Gives ((expr_binding lent).part over) part
    → GoesOnBoth (join_on on.place) before part result → GoesOn ((join_binding join).on view) before result
on_arm view over join outer source on lent before result part is at front_is given both =
    let seen : Gives ((expr_binding on.test).part (front view (width_of before))) part =
    subst (λ v. Gives ((expr_binding on.test).part v) part) front_is (part_at over on.test lent part at given) in
    on_goes view join (Join-F.On outer source on) before result is
    (subst (λ (b : ConditionBinding). GoesOn (λ j. b.test.part (front view (on_width j)) >>= join_on b.place j) before result) (sym (condition_is on))
    (on_then (λ j. (expr_binding on.test).part (front view (on_width j))) (join_on on.place) before part result
    (λ j found. subst (λ f. Gives ((expr_binding on.test).part (front view (width_of f))) part) found seen) both))

pub where_arm : (view : View) (condition : Condition) (lent : Expr) (filter : Result Filter BindFault) (result : Result (List Conjunct) BindFault) → lent ≡ condition.test
    → Gives ((expr_binding lent).filter view) filter → GoesOn (ended condition.place) filter result → Gives (conjuncts view (Some condition)) result
where_arm view condition lent filter result is given on =
    subst (λ (b : ConditionBinding). Gives (b.test.filter view >>= ended b.place) result) (sym (condition_is condition))
    (goes_on ((expr_binding condition.test).filter view) (ended condition.place) filter result (subst (λ x. Gives ((expr_binding x).filter view) filter) is given) on)

pub having_arm : (view : View) (condition : Condition) (lent : Expr) (outputs : Result Outputs BindFault) (part : Result Part BindFault) (result : Result Selected BindFault) → lent ≡ condition.test
    → Gives ((expr_binding lent).part view) part → GoesOnBoth (with_having condition.place) outputs part result → GoesOn (selected view (Some condition)) outputs result
having_arm view condition lent outputs part result is given on =
    subst (λ (b : ConditionBinding). GoesOn (λ o. b.test.part view >>= with_having b.place o) outputs result) (sym (condition_is condition))
    (on_beside ((expr_binding condition.test).part view) (with_having condition.place) outputs part result (part_at view condition.test lent part is given) on)

pub select_arm : (view : View) (select : Select) (lent : Rows) (order : List Key) (rows : Result Unordered BindFault) (result : Result BoundSelect BindFault) → lent ≡ select.rows → order ≡ select.order
    → Gives ((rows_binding lent).rows view) rows → GoesOn (select_of view order select.limit select.offset) rows result → Gives ((select_binding select).select view) result
select_arm view select lent order rows result is same given on =
    subst (λ (b : SelectBinding). Gives (b.select view) result) (sym (select_is select))
    (goes_on ((rows_binding select.rows).rows view) (select_of view select.order select.limit select.offset) rows result
    (subst (λ x. Gives ((rows_binding x).rows view) rows) is given) (subst (λ o. GoesOn (select_of view o select.limit select.offset) rows result) same on))
