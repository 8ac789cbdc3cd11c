use Rattle.std.proofs.Common.{◌≡◌, ◌++◌, ◌-◌, ◌≤◌, length, take}
use Rattle.rebase_pins.specs.RowPages.{IsOwned}
use Rattle.rebase_pins.specs.Seen.{rows_seen, seen_under}
use Rattle.row_sets.specs.Changes.{Changes}
use Rattle.row_sets.specs.Closing.{SameColumns}
use Rattle.row_sets.specs.Writers.{written_cells, writer_holding, Writing, IsWriterHere}
use Rattle.row_cursors.proofs.copying.copy_page.Given as goal

abbrev pub invariant-loop-row : goal.invariant-loop-row
invariant-loop-row g l =
    let t = g.P.Pages.terms in
    record {
      count : l.count ≡ length (rows_seen (seen_under t l.set.layout l.pins));
      low : l.row ≤ l.count;
      front : written_cells t l.writer ≡ written_cells t l.initial.writer ++ take l.row (rows_seen (seen_under t l.set.layout l.pins));
      own : IsOwned t (g.P.Pages.view l.pages) l.pins;
      columns : SameColumns l.initial.writer l.writer;
      writing : Writing t l.writer;
      here : IsWriterHere t (g.P.Pages.view l.pages) l.writer;
      changes : Changes t (writer_holding t l.initial.writer) (writer_holding t l.writer) (g.P.Pages.view l.initial.pages) (g.P.Pages.view l.pages);
    }

abbrev pub decreases-loop-row : goal.decreases-loop-row
decreases-loop-row g l = l.count - l.row
