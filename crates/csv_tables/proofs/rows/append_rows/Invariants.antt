use Rattle.std.proofs.Common.{◌≡◌, ◌≢◌, ◌≤◌, true}
use Rattle.row_sets.specs.Changes.{Changes}
use Rattle.row_sets.specs.Closing.{SameColumns}
use Rattle.row_sets.specs.Writers.{Writing, IsWriterHere, written_cells, writer_holding}
use Rattle.csv_load.specs.declared.stage.Stage.TheVariants.{Failed}
use Rattle.csv_load.specs.Ahead.{bytes_ahead, told_rows}
use Rattle.csv_tables.specs.Adds.{HasAdded}
use Rattle.csv_tables.proofs.rows.append_rows.Given as goal

abbrev pub invariant-rows : goal.invariant-rows
invariant-rows g l = record {
  opened : g.F.Files.is_open l.files ≡ true;
  goes_on : l.rows.stage ≢ Failed;
  reading : l.rows.reading ≡ l.initial.rows.reading;
  columns : SameColumns l.initial.writer l.writer;
  writing : Writing g.P.Pages.terms l.writer;
  here : IsWriterHere g.P.Pages.terms (g.P.Pages.view l.pages) l.writer;
  changes : Changes g.P.Pages.terms (writer_holding g.P.Pages.terms l.initial.writer) (writer_holding g.P.Pages.terms l.writer) (g.P.Pages.view l.initial.pages) (g.P.Pages.view l.pages);
  holds : g.F.Files.holds l.files ≡ g.F.Files.holds l.initial.files;
  later : g.F.Files.faults l.initial.files ≤ g.F.Files.faults l.files;
  added : HasAdded l.initial.rows.reading.limit l.initial.rows.reading.columns (told_rows l.initial.rows (g.F.Files.left l.initial.files)) (told_rows l.rows (g.F.Files.left l.files)) (written_cells g.P.Pages.terms l.initial.writer) (written_cells g.P.Pages.terms l.writer);
}

abbrev pub decreases-rows : goal.decreases-rows
decreases-rows g l = bytes_ahead l.rows
