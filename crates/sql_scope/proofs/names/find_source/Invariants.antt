use Rattle.std.proofs.Common.{◌≡◌, drop}
use Rattle.sql_scope.specs.Scopes.{after, found, spots, is_of}
use Rattle.sql_scope.proofs.names.find_source.Given as goal

abbrev pub invariant-loop-place : goal.invariant-loop-place
invariant-loop-place l = after l.seen (spots (is_of l.source) l.place (drop l.place l.columns)) ≡ found (spots (is_of l.source) 0 l.columns)
