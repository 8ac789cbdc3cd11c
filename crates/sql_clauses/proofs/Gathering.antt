-- Each call is one of the aggregates that are gathered.
use Rattle.std.proofs.Common.{◌≡◌, ℕ, suc, ◌+◌, ◌<◌, ◌≤◌, Bool, true, false, cond, List, [], ◌∷◌, ◌++◌, refl, sym, subst, length, arith, length-append}
use Rattle.std.specs.Prelude.{nat_le, ◌&&◌}
use Rattle.bound_tree.specs.declared.select.Aggregate.{Aggregate}
use Rattle.sql_scope.specs.declared.part.Call.{Call}
use Rattle.sql_clauses.specs.declared.aggregates.CallColumn.{CallColumn}
use Rattle.sql_clauses.specs.declared.aggregates.Gathered.{Gathered}
use Rattle.sql_clauses.specs.Tables.{most_columns}
use Rattle.sql_clauses.specs.Cores.{most_items}
use Rattle.sql_clauses.specs.Grouping.{most_places}
use Rattle.sql_clauses.specs.Aggregates.{AreAmong, same_aggregate, place_from, with_aggregate, with_call, gathered_from, gathered}

pub more_among : (few many : ℕ) (calls : List CallColumn) → few ≤ many → AreAmong few calls → AreAmong many calls
more_among few many [] h among = tt
more_among few many (call ∷ calls) h among =
    let here : call.at < few = among.0 in
    (omega arith, more_among few many calls h among.1)

among_behind : (count : ℕ) (calls : List CallColumn) (call : CallColumn) → AreAmong count calls → call.at < count → AreAmong count (calls ++ call ∷ [])
among_behind count [] call among h = (h, tt)
among_behind count (first ∷ calls) call among h = (among.0, among_behind count calls call among.1 h)

cond_within : (b : Bool) (at i : ℕ) (n : ℕ) → at < n → i ≤ n → cond b at i ≤ n
cond_within true at i n h g = omega arith
cond_within false at i n h g = g

-- an aggregate's place is one of theirs, or the next
place_within : (at : ℕ) (aggregates : List Aggregate) (aggregate : Aggregate) → place_from at aggregates aggregate ≤ at + length aggregates
place_within at [] aggregate = omega arith
place_within at (other ∷ others) aggregate =
    let next : place_from (at + 1) others aggregate ≤ (at + 1) + length others = place_within (at + 1) others aggregate in
    cond_within (same_aggregate other aggregate) at (place_from (at + 1) others aggregate) (at + suc (length others)) (omega arith) (omega arith)

longer : (b : Bool) (aggregates : List Aggregate) (aggregate : Aggregate) (place : ℕ) → place ≤ length aggregates → (b ≡ false → place < length aggregates)
    → place < length (cond b (aggregates ++ aggregate ∷ []) aggregates)
longer true aggregates aggregate place h g =
    let n : length (aggregates ++ aggregate ∷ []) ≡ length aggregates + 1 = length-append aggregates (aggregate ∷ []) in
    omega arith
longer false aggregates aggregate place h g = g refl

grown : (b : Bool) (aggregates : List Aggregate) (aggregate : Aggregate) → length aggregates ≤ length (cond b (aggregates ++ aggregate ∷ []) aggregates)
grown true aggregates aggregate =
    let n : length (aggregates ++ aggregate ∷ []) ≡ length aggregates + 1 = length-append aggregates (aggregate ∷ []) in
    omega arith
grown false aggregates aggregate = omega arith

is_below : (m n : ℕ) → nat_le m n ≡ false → n < m
is_below m n e = grind arith

among_next : (all : Gathered) (call : Call) → AreAmong (length all.aggregates) all.calls → AreAmong (length (with_call all call).aggregates) (with_call all call).calls
among_next all call among =
    let place = place_from 0 all.aggregates call.aggregate in
    let within : place_from 0 all.aggregates call.aggregate ≤ 0 + length all.aggregates = place_within 0 all.aggregates call.aggregate in
    let b = nat_le (length all.aggregates) place in
    among_behind (length (with_aggregate all.aggregates place call.aggregate)) all.calls (record { place = call.place; at = place })
    (more_among (length all.aggregates) (length (with_aggregate all.aggregates place call.aggregate)) all.calls (grown b all.aggregates call.aggregate) among)
    (longer b all.aggregates call.aggregate place (omega arith) (λ e. is_below (length all.aggregates) place e))

among_from : (all : Gathered) (calls : List Call) → AreAmong (length all.aggregates) all.calls → AreAmong (length (gathered_from all calls).aggregates) (gathered_from all calls).calls
among_from all [] among = among
among_from all (call ∷ calls) among = among_from (with_call all call) calls (among_next all call among)

pub are_among : (calls : List Call) → AreAmong (length (gathered calls).aggregates) (gathered calls).calls
are_among calls = among_from (record { aggregates = []; calls = [] }) calls tt

pub among_same : (all other : Gathered) → all ≡ other → AreAmong (length other.aggregates) other.calls → AreAmong (length all.aggregates) all.calls
among_same all other is among = subst (λ (g : Gathered). AreAmong (length g.aggregates) g.calls) (sym is) among

both_hold : (a b : Bool) → (a && b) ≡ true → b ≡ true
both_hold true b e = e
both_hold false b e = cc

is_at_most : (m n : ℕ) → nat_le m n ≡ true → m ≤ n
is_at_most m n e = grind arith

-- where the items, and the keys with the aggregates, are few, the aggregates are
pub narrow_few : (items keys aggregates : ℕ) → (nat_le items most_items && nat_le (keys + aggregates) most_columns) ≡ true → aggregates ≤ most_places
narrow_few items keys aggregates e =
    let together : keys + aggregates ≤ most_columns = is_at_most (keys + aggregates) most_columns (both_hold (nat_le items most_items) (nat_le (keys + aggregates) most_columns) e) in
    omega arith
