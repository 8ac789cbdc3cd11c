use Rattle.row_sets_runs.proofs.Rests.{alone, here_on}
use Rattle.row_figures.proofs.work.copy_set.Goals as goal

pub copy_often-sum-requires-clause-alone : goal.copy_often-sum-requires-clause-alone
copy_often-sum-requires-clause-alone g c = alone g.P.Pages.terms c.in_ok-set.set (g.P.Pages.view c.build.new.pages) c.in_ok-set.ensures.unpinned

pub retire_set-requires-clause-here : goal.retire_set-requires-clause-here
retire_set-requires-clause-here g c = here_on g.P.Pages.terms c.in_ok-set.set (g.P.Pages.view c.build.new.pages) (g.P.Pages.view c.copy_often-sum.new.pages) c.copy_often-sum.ensures.changes c.in_ok-set.ensures.formed c.in_ok-set.ensures.here
