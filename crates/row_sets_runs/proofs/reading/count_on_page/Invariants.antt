use Rattle.page_body.specs.Keeps.{Kept}
use Rattle.row_sets_runs.proofs.reading.count_on_page.Given as goal

abbrev pub invariant-loop : goal.invariant-loop
invariant-loop g l = Kept (g.P.Pages.view l.initial.pages) (g.P.Pages.view l.pages)
