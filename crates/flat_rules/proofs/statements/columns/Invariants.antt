use Rattle.std.proofs.Common.{◌≤◌, length}
use Rattle.sql_grammar.specs.Nesting.{readers}
use Rattle.sql_grammar.specs.Statements as form
use Rattle.flat_rules.proofs.Lists.{ListSoFar}
use Rattle.flat_rules.proofs.statements.columns.Given as goal

abbrev pub invariant-turns : goal.invariant-turns
invariant-turns l = record {
  shrinks : length l.cursor ≤ length l.fn.cursor;
  so_far : ListSoFar (readers l.depth) form.column l.fn.cursor l.found l.cursor;
}

abbrev pub decreases-turns : goal.decreases-turns
decreases-turns l = length l.cursor
