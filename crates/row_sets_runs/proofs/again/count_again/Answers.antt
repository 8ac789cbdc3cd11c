use Rattle.std.proofs.Common.{◌≡◌, ◌+◌, ◌≤◌, arith}
use Rattle.row_sets_runs.proofs.Rests.{here_on, alone_on, as_changes}
use Rattle.row_sets_runs.proofs.again.count_again.Goals as goal

pub next_again-requires-clause-here : goal.next_again-requires-clause-here
next_again-requires-clause-here g c =
    let t = g.P.Pages.terms in
    let a = g.P.Pages.view c.args.pages.now in
    let b = g.P.Pages.view c.loop-number.pages in
    here_on t c.args.set.now a b (as_changes t a b c.loop-number.invariant) c.requires.formed c.requires.here

pub next_again-requires-clause-alone : goal.next_again-requires-clause-alone
next_again-requires-clause-alone g c =
    let t = g.P.Pages.terms in
    let a = g.P.Pages.view c.args.pages.now in
    let b = g.P.Pages.view c.loop-number.pages in
    alone_on t c.args.set.now a b (as_changes t a b c.loop-number.invariant) c.requires.alone

pub next_again-requires-clause-room : goal.next_again-requires-clause-room
next_again-requires-clause-room g c =
    let held = c.loop-number.invariant.held in
    let grant = c.loop-number.invariant.grant in
    let room = c.requires.room in
    omega (arith, held, grant, room)
