use Rattle.std.proofs.Common.{◌≡◌, ◌+◌, ◌++◌, length, take}
use Rattle.std.specs.Prelude.{IsTrue}
use Rattle.row_sets.specs.Changes.{Changes}
use Rattle.row_sets.specs.Closing.{SameColumns}
use Rattle.row_sets.specs.Sets.{joined, set_lists}
use Rattle.row_sets.specs.Writers.{written_cells, writer_holding, Writing, IsWriterHere}
use Rattle.row_cursors.proofs.copying.copy_rows.Given as goal

abbrev pub invariant-loop-page : goal.invariant-loop-page
invariant-loop-page g l =
    let t = g.P.Pages.terms in
    record {
      rows : IsTrue t.told → written_cells t l.writer ≡ written_cells t l.initial.writer ++ joined (take l.page (set_lists t l.set));
      counted : l.writer.rows ≡ l.initial.writer.rows + length (joined (take l.page (set_lists t l.set)));
      columns : SameColumns l.initial.writer l.writer;
      writing : Writing t l.writer;
      here : IsWriterHere t (g.P.Pages.view l.pages) l.writer;
      changes : Changes t (writer_holding t l.initial.writer) (writer_holding t l.writer) (g.P.Pages.view l.initial.pages) (g.P.Pages.view l.pages);
    }
