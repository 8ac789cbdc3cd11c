use Rattle.page_body.specs.Keeps.{Kept}
use Rattle.csv_table_runs.proofs.session.put_set.Given as goal

abbrev pub invariant-loop : goal.invariant-loop
invariant-loop g l = Kept (g.P.Pages.view l.initial.pages) (g.P.Pages.view l.pages)
