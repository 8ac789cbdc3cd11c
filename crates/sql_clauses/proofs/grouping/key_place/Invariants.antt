use Rattle.std.proofs.Common.{◌≡◌, drop}
use Rattle.sql_clauses.specs.Grouping.{key_from}
use Rattle.sql_clauses.proofs.grouping.key_place.Given as goal

abbrev pub invariant-loop-place : goal.invariant-loop-place
invariant-loop-place l = key_from l.place (drop l.place l.keys) l.tree ≡ key_from 0 l.keys l.tree
