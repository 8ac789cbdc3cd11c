use Rattle.std.proofs.Common.{◌≡◌, ◌++◌, drop}
use Rattle.sql_clauses.specs.Sets.{types_of}
use Rattle.sql_clauses.proofs.sets.types_of.Given as goal

abbrev pub invariant-loop-column : goal.invariant-loop-column
invariant-loop-column l = l.types ++ types_of (drop l.column-index l.columns) ≡ types_of l.columns
