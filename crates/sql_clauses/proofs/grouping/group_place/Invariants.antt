use Rattle.std.proofs.Common.{◌≡◌, drop}
use Rattle.sql_clauses.specs.Aggregates.{AreAmong}
use Rattle.sql_clauses.specs.Grouping.{group_place, most_places}
use Rattle.sql_clauses.proofs.grouping.group_place.Given as goal

abbrev pub invariant-loop-call : goal.invariant-loop-call
invariant-loop-call l = record {
  among : AreAmong most_places (drop l.call-index l.calls);
  same : group_place l.keys l.width (drop l.call-index l.calls) l.place ≡ group_place l.keys l.width l.calls l.place;
}
