use Rattle.page_body.specs.Keeps.{Kept}
use Rattle.row_sets_runs.proofs.again.count_again.Given as goal

abbrev pub invariant-loop-number : goal.invariant-loop-number
invariant-loop-number g l = Kept (g.P.Pages.view l.initial.pages) (g.P.Pages.view l.pages)
