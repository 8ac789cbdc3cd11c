use Rattle.row_sets_runs.proofs.Rests.{alone, here_on, as_changes}
use Rattle.row_sets_runs.proofs.images.writes_images.Goals as goal

pub has_images-same-requires-clause-alone : goal.has_images-same-requires-clause-alone
has_images-same-requires-clause-alone g c = alone g.P.Pages.terms c.in_ok-set.set (g.P.Pages.view c.build.new.pages) c.in_ok-set.ensures.unpinned

pub retire_set-requires-clause-here : goal.retire_set-requires-clause-here
retire_set-requires-clause-here g c =
    let t = g.P.Pages.terms in
    let a = g.P.Pages.view c.build.new.pages in
    let b = g.P.Pages.view c.has_images-same.new.pages in
    here_on t c.in_ok-set.set a b (as_changes t a b c.has_images-same.ensures.kept) c.in_ok-set.ensures.formed c.in_ok-set.ensures.here
