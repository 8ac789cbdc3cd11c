-- The aggregates of a core: each different one once, as written in its items and its HAVING.
use Rattle.std.specs.Prelude.{◌<◌, ⊤, ℕ, ◌+◌, Bool, true, false, ◌&&◌, ◌||◌, not, nat_le, List, [], ◌∷◌, ◌++◌, length, Option, Some, None, if◌then◌else◌}
use Rattle.sql_expr.specs.declared.tree.Expr.{Expr as Tree}
use Rattle.bound_tree.specs.declared.kinds.AggregateKind.{AggregateKind}
use Rattle.bound_tree.specs.declared.kinds.AggregateKind.TheVariants.{CountRows, Count, CountDistinct, Sum, Min, Max}
use Rattle.bound_tree.specs.declared.select.Aggregate.{Aggregate}
use Rattle.sql_scope.specs.declared.part.Call.{Call}
use Rattle.sql_scope.specs.Equality.{same}
use Rattle.sql_clauses.specs.declared.aggregates.Gathered.{Gathered}
use Rattle.sql_clauses.specs.declared.aggregates.CallColumn.{CallColumn}

abbrev pub same_kind : AggregateKind → AggregateKind → Bool
same_kind CountRows CountRows = true
same_kind Count Count = true
same_kind CountDistinct CountDistinct = true
same_kind Sum Sum = true
same_kind Min Min = true
same_kind Max Max = true
same_kind k l = false

abbrev pub same_argument : Option Tree → Option Tree → Bool
same_argument None None = true
same_argument None (Some b) = false
same_argument (Some a) None = false
same_argument (Some a) (Some b) = same a b

-- one kind of one argument
abbrev pub same_aggregate : Aggregate → Aggregate → Bool
same_aggregate a b = same_kind a.kind b.kind && same_argument a.of b.of

-- the place of an aggregate among others, from a number on; behind them where it isn't one of them
abbrev pub place_from : ℕ → List Aggregate → Aggregate → ℕ
place_from at [] aggregate = at
place_from at (other ∷ others) aggregate = if same_aggregate other aggregate then at else place_from (at + 1) others aggregate

-- each once
abbrev pub with_aggregate : List Aggregate → ℕ → Aggregate → List Aggregate
with_aggregate aggregates place aggregate = if nat_le (length aggregates) place then aggregates ++ aggregate ∷ [] else aggregates

-- a call: which of the aggregates it is
abbrev pub with_call : Gathered → Call → Gathered
with_call gathered call = record {
  aggregates = with_aggregate gathered.aggregates (place_from 0 gathered.aggregates call.aggregate) call.aggregate;
  calls = gathered.calls ++ record { place = call.place; at = place_from 0 gathered.aggregates call.aggregate } ∷ [];
}

abbrev pub gathered_from : Gathered → List Call → Gathered
gathered_from gathered [] = gathered
gathered_from gathered (call ∷ calls) = gathered_from (with_call gathered call) calls

abbrev pub gathered : List Call → Gathered
gathered calls = gathered_from (record { aggregates = []; calls = [] }) calls

abbrev pub is_distinct : AggregateKind → Bool
is_distinct CountRows = false
is_distinct Count = false
is_distinct CountDistinct = true
is_distinct Sum = false
is_distinct Min = false
is_distinct Max = false

abbrev pub has_distinct : List Call → Bool
has_distinct [] = false
has_distinct (call ∷ calls) = is_distinct call.aggregate.kind || has_distinct calls

-- whether one isn't the same as this
abbrev pub has_other : Aggregate → List Call → Bool
has_other first [] = false
has_other first (call ∷ calls) = not (same_aggregate first call.aggregate) || has_other first calls

-- no `count(DISTINCT x)` stands beside an aggregate that isn't the same
abbrev pub are_unmixed : List Call → Bool
are_unmixed [] = true
are_unmixed (first ∷ calls) = not (has_distinct (first ∷ calls) && has_other first.aggregate (first ∷ calls))

-- the place of the first aggregate as written
abbrev pub first_call : List Call → ℕ
first_call [] = 0
first_call (first ∷ calls) = first.place

-- each call is one of so many aggregates
abbrev pub AreAmong : ℕ → List CallColumn → Type 0
AreAmong count [] = ⊤
AreAmong count (call ∷ calls) = (call.at < count) × AreAmong count calls
