use Rattle.std.proofs.Common.{◌≤◌, length}
use Rattle.sql_grammar.specs.Nesting.{readers}
use Rattle.sql_parse.proofs.Scripts.{ScriptSoFar}
use Rattle.sql_parse.proofs.script.script.Given as goal

abbrev pub invariant-turns : goal.invariant-turns
invariant-turns l = record {
  shrinks : length l.cursor ≤ length l.fn.cursor;
  so_far : ScriptSoFar (readers l.depth) l.fn.cursor l.statements l.cursor;
}

abbrev pub decreases-turns : goal.decreases-turns
decreases-turns l = length l.cursor
