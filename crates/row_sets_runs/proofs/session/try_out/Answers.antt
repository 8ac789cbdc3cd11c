use Rattle.row_sets_runs.proofs.Rests.{here_on}
use Rattle.row_sets_runs.proofs.session.try_out.Goals as goal

pub read_back-requires-clause-here : goal.read_back-requires-clause-here
read_back-requires-clause-here g c = here_on g.P.Pages.terms c.args.set.now (g.P.Pages.view c.args.pages.now) (g.P.Pages.view c.build_and_retire-beside.new.pages) c.build_and_retire-beside.ensures.changes c.requires.formed c.requires.here
