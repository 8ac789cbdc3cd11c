use Rattle.std.proofs.Common.{◌≡◌, ◌+◌, [], drop}
use Rattle.script_says.specs.Catalog.{no_tables}
use Rattle.script_says.specs.Checking.{check_statement, check_closing}
use Rattle.script_says.specs.Runs.{Run}
use Rattle.script_says.proofs.SoFar.{SoFar}
use Rattle.script_says.proofs.LastLines.{Grown}
use Rattle.script_check.specs.Tables.{catalog_in}
use Rattle.script_check.proofs.check.check_statements.Given as goal

-- what was written so far goes on with the statements that are left
abbrev pub invariant-loop-statement : goal.invariant-loop-statement
invariant-loop-statement g l = record {
  counted : l.number ≡ l.statement-index + 1;
  faults : g.K.Sink.faults l.out ≡ g.K.Sink.faults l.fn.out;
  grown : Grown (g.K.Sink.written l.fn.out) (g.K.Sink.written l.out);
  so_far : SoFar (Run (check_statement l.script l.limit) check_closing 1 no_tables l.statements) (Run (check_statement l.script l.limit) check_closing l.number (catalog_in l.tables.items) (drop l.statement-index l.statements)) (g.K.Sink.written l.fn.out) (g.K.Sink.written l.out);
}
