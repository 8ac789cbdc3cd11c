use Rattle.page_body.specs.Keeps.{Kept}
use Rattle.row_sets_runs.proofs.reading.count_on_pages.Given as goal

abbrev pub invariant-loop-page : goal.invariant-loop-page
invariant-loop-page g l = Kept (g.P.Pages.view l.initial.pages) (g.P.Pages.view l.pages)
