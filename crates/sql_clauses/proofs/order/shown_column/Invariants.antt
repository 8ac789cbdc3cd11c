use Rattle.std.proofs.Common.{◌≡◌, drop}
use Rattle.sql_clauses.specs.Places.{first_place}
use Rattle.sql_clauses.specs.Order.{shows_column}
use Rattle.sql_clauses.proofs.order.shown_column.Given as goal

abbrev pub invariant-loop-place : goal.invariant-loop-place
invariant-loop-place l =
    first_place (shows_column l.columns l.source l.name) l.place (drop l.place l.plain) ≡ first_place (shows_column l.columns l.source l.name) 0 l.plain
