use Rattle.row_sets_runs.proofs.Rests.{alone, here_on, as_changes}
use Rattle.row_sets_runs.proofs.session.copy_and_count.Goals as goal

pub count_same-same-requires-clause-alone : goal.count_same-same-requires-clause-alone
count_same-same-requires-clause-alone g c = alone g.P.Pages.terms c.in_ok-copy.copy (g.P.Pages.view c.copy_of.new.pages) c.in_ok-copy.ensures.unpinned

pub retire_set-requires-clause-here : goal.retire_set-requires-clause-here
retire_set-requires-clause-here g c =
    let t = g.P.Pages.terms in
    let a = g.P.Pages.view c.copy_of.new.pages in
    let b = g.P.Pages.view c.count_same-same.new.pages in
    here_on t c.in_ok-copy.copy a b (as_changes t a b c.count_same-same.ensures.kept) c.in_ok-copy.ensures.formed c.in_ok-copy.ensures.here
