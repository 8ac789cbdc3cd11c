use Rattle.std.proofs.Common.{◌≡◌, ◌+◌, ◌≤◌, arith}
use Rattle.row_sets_runs.proofs.Rests.{here_on, alone_on, as_changes}
use Rattle.row_sets_runs.proofs.reading.count_on_pages.Goals as goal

pub count_on_page-requires-clause-here : goal.count_on_page-requires-clause-here
count_on_page-requires-clause-here g c =
    let t = g.P.Pages.terms in
    let a = g.P.Pages.view c.args.pages.now in
    let b = g.P.Pages.view c.loop-page.pages in
    here_on t c.args.set.now a b (as_changes t a b c.loop-page.invariant) c.requires.formed c.requires.here

pub count_on_page-requires-clause-alone : goal.count_on_page-requires-clause-alone
count_on_page-requires-clause-alone g c =
    let t = g.P.Pages.terms in
    let a = g.P.Pages.view c.args.pages.now in
    let b = g.P.Pages.view c.loop-page.pages in
    alone_on t c.args.set.now a b (as_changes t a b c.loop-page.invariant) c.requires.alone

pub count_on_page-requires-clause-room : goal.count_on_page-requires-clause-room
count_on_page-requires-clause-room g c =
    let held = c.loop-page.invariant.held in
    let grant = c.loop-page.invariant.grant in
    let room = c.requires.room in
    omega (arith, held, grant, room)
