use Rattle.std.proofs.Common.{◌≡◌, ◌+◌, ◌≤◌, arith}
use Rattle.row_sets_runs.proofs.Rests.{here_on, alone_on, as_changes}
use Rattle.csv_table_runs.proofs.session.put_set.Goals as goal

pub next_row-requires-clause-here : goal.next_row-requires-clause-here
next_row-requires-clause-here g c =
    let t = g.P.Pages.terms in
    let a = g.P.Pages.view c.args.pages.now in
    let b = g.P.Pages.view c.loop.pages in
    here_on t c.args.set.now a b (as_changes t a b c.loop.invariant) c.requires.formed c.requires.here

pub next_row-requires-clause-alone : goal.next_row-requires-clause-alone
next_row-requires-clause-alone g c =
    let t = g.P.Pages.terms in
    let a = g.P.Pages.view c.args.pages.now in
    let b = g.P.Pages.view c.loop.pages in
    alone_on t c.args.set.now a b (as_changes t a b c.loop.invariant) c.requires.alone

pub next_row-requires-clause-room : goal.next_row-requires-clause-room
next_row-requires-clause-room g c =
    let held = c.loop.invariant.held in
    let grant = c.loop.invariant.grant in
    let room = c.requires.room in
    omega (arith, held, grant, room)

pub next_row-requires-2-clause-here : goal.next_row-requires-2-clause-here
next_row-requires-2-clause-here g c =
    let t = g.P.Pages.terms in
    let a = g.P.Pages.view c.args.pages.now in
    let b = g.P.Pages.view c.loop.pages in
    here_on t c.args.set.now a b (as_changes t a b c.loop.invariant) c.requires.formed c.requires.here

pub next_row-requires-2-clause-alone : goal.next_row-requires-2-clause-alone
next_row-requires-2-clause-alone g c =
    let t = g.P.Pages.terms in
    let a = g.P.Pages.view c.args.pages.now in
    let b = g.P.Pages.view c.loop.pages in
    alone_on t c.args.set.now a b (as_changes t a b c.loop.invariant) c.requires.alone

pub next_row-requires-2-clause-room : goal.next_row-requires-2-clause-room
next_row-requires-2-clause-room g c =
    let held = c.loop.invariant.held in
    let grant = c.loop.invariant.grant in
    let room = c.requires.room in
    omega (arith, held, grant, room)
