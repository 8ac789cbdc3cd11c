use Rattle.row_sets_runs.proofs.Rests.{alone, here_on, as_changes}
use Rattle.row_sets_runs.proofs.again.run_again.Goals as goal

pub count_again-again-requires-clause-alone : goal.count_again-again-requires-clause-alone
count_again-again-requires-clause-alone g c = alone g.P.Pages.terms c.in_ok-set.set (g.P.Pages.view c.build.new.pages) c.in_ok-set.ensures.unpinned

pub retire_set-requires-clause-here : goal.retire_set-requires-clause-here
retire_set-requires-clause-here g c =
    let t = g.P.Pages.terms in
    let a = g.P.Pages.view c.build.new.pages in
    let b = g.P.Pages.view c.count_again-again.new.pages in
    here_on t c.in_ok-set.set a b (as_changes t a b c.count_again-again.ensures.kept) c.in_ok-set.ensures.formed c.in_ok-set.ensures.here
