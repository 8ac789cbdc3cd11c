use Rattle.std.proofs.Common.{◌≡◌, drop}
use Rattle.sql_clauses.specs.Aggregates.{place_from}
use Rattle.sql_clauses.proofs.aggregates.place_of.Given as goal

abbrev pub invariant-loop-place : goal.invariant-loop-place
invariant-loop-place l = place_from l.place (drop l.place l.aggregates) l.aggregate ≡ place_from 0 l.aggregates l.aggregate
