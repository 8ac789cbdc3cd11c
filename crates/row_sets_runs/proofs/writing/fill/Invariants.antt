use Rattle.row_sets.specs.Changes.{Changes}
use Rattle.row_sets.specs.Writers.{writer_holding, Writing, IsWriterHere}
use Rattle.row_sets_runs.proofs.writing.fill.Given as goal

abbrev pub invariant-loop-number : goal.invariant-loop-number
invariant-loop-number g l =
    let t = g.P.Pages.terms in
    record {
      writing : Writing t l.writer;
      here : IsWriterHere t (g.P.Pages.view l.pages) l.writer;
      changes : Changes t (writer_holding t l.initial.writer) (writer_holding t l.writer) (g.P.Pages.view l.initial.pages) (g.P.Pages.view l.pages);
    }
