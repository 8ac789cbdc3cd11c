use Rattle.row_sets_runs.proofs.Rests.{here_on}
use Rattle.row_sets_runs.proofs.session.run.Goals as goal

pub retire_set-requires-clause-here : goal.retire_set-requires-clause-here
retire_set-requires-clause-here g c = here_on g.P.Pages.terms c.in_ok-set.set (g.P.Pages.view c.build.new.pages) (g.P.Pages.view c.try_out-report.new.pages) c.try_out-report.ensures.changes c.in_ok-set.ensures.formed c.in_ok-set.ensures.here
