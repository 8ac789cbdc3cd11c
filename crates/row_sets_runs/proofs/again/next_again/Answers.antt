use Rattle.row_sets_runs.proofs.Rests.{here_on, as_changes}
use Rattle.row_sets_runs.proofs.again.next_again.Goals as goal

pub next_row-requires-in-Err-clause-here : goal.next_row-requires-in-Err-clause-here
next_row-requires-in-Err-clause-here g c =
    let t = g.P.Pages.terms in
    let a = g.P.Pages.view c.args.pages.now in
    let b = g.P.Pages.view c.next_row.new.pages in
    here_on t c.args.set.now a b (as_changes t a b c.next_row.ensures.kept) c.requires.formed c.requires.here
