use Rattle.std.proofs.Common.{◌≡◌, drop}
use Rattle.sql_scope.specs.Scopes.{after, found, spots, is_named}
use Rattle.sql_scope.proofs.names.find_named.Given as goal

abbrev pub invariant-loop-place : goal.invariant-loop-place
invariant-loop-place l = after l.seen (spots (is_named l.name) l.place (drop l.place l.columns)) ≡ found (spots (is_named l.name) 0 l.columns)
