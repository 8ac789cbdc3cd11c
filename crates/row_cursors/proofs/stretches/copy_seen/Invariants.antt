use Rattle.std.proofs.Common.{◌≡◌, ◌++◌, ◌≤◌, length}
use Rattle.std.specs.Prelude.{slice_range}
use Rattle.rebase_pins.specs.Seen.{rows_seen, values_seen}
use Rattle.row_sets.specs.Adding.{KeepsPlace}
use Rattle.row_sets.specs.Cells.{long_in}
use Rattle.row_sets.specs.Writers.{HasRoom, Writing, written_cells}
use Rattle.row_cursors.proofs.stretches.copy_seen.Given as goal

abbrev pub invariant-loop-row : goal.invariant-loop-row
invariant-loop-row g l =
    let t = g.P.Pages.terms in
    record {
      long : length l.cells ≡ length l.view.kinds;
      low : l.from ≤ l.row;
      rows : written_cells t l.writer ≡ written_cells t l.initial.writer ++ slice_range (rows_seen l.view) l.from l.row;
      writing : Writing t l.writer;
      place : KeepsPlace t l.initial.writer l.writer;
      room : l.row ≡ l.from → HasRoom l.writer (long_in (values_seen l.view l.from));
    }
