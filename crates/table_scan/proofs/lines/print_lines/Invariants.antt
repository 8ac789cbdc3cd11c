use Rattle.std.proofs.Common.{◌≡◌, drop}
use Rattle.table_scan.specs.Sink.{lines_behind}
use Rattle.table_scan.proofs.lines.print_lines.Given as goal

abbrev pub invariant-loop-row : goal.invariant-loop-row
invariant-loop-row l = lines_behind l.limit l.text.items (drop l.row-index l.rows) ≡ lines_behind l.limit l.fn.text.items l.rows
