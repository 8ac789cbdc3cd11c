use Rattle.std.proofs.Common.{◌≡◌, drop}
use Rattle.sql_clauses.specs.Places.{places, seen}
use Rattle.sql_clauses.specs.Tables.{is_called}
use Rattle.sql_clauses.proofs.Seeing.{after}
use Rattle.sql_clauses.proofs.order.named_outputs.Given as goal

abbrev pub invariant-loop-place : goal.invariant-loop-place
invariant-loop-place l = after l.seen (places (is_called l.name) l.place (drop l.place l.columns)) ≡ seen (places (is_called l.name) 0 l.columns)
