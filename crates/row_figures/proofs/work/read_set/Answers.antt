use Rattle.row_sets_runs.proofs.Rests.{alone, here_on, as_changes}
use Rattle.row_figures.proofs.work.read_set.Goals as goal

pub read_page-sum-requires-clause-alone : goal.read_page-sum-requires-clause-alone
read_page-sum-requires-clause-alone g c = alone g.P.Pages.terms c.in_ok-set.set (g.P.Pages.view c.build.new.pages) c.in_ok-set.ensures.unpinned

pub retire_set-requires-clause-here : goal.retire_set-requires-clause-here
retire_set-requires-clause-here g c =
    let t = g.P.Pages.terms in
    let a = g.P.Pages.view c.build.new.pages in
    let b = g.P.Pages.view c.read_page-sum.new.pages in
    here_on t c.in_ok-set.set a b (as_changes t a b c.read_page-sum.ensures.kept) c.in_ok-set.ensures.formed c.in_ok-set.ensures.here
