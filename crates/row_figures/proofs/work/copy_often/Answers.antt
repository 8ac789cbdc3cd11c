use Rattle.std.proofs.Common.{arith}
use Rattle.row_sets.specs.Holds.{nothing}
use Rattle.row_sets.proofs.Changed.{changes_none, changes_then}
use Rattle.row_sets_runs.proofs.Rests.{here_on, alone_on}
use Rattle.row_figures.proofs.work.copy_often.Goals as goal

pub copy_once-requires-clause-here : goal.copy_once-requires-clause-here
copy_once-requires-clause-here g c = here_on g.P.Pages.terms c.args.set.now (g.P.Pages.view c.args.pages.now) (g.P.Pages.view c.loop-round.pages) c.loop-round.invariant c.requires.formed c.requires.here

pub copy_once-requires-clause-alone : goal.copy_once-requires-clause-alone
copy_once-requires-clause-alone g c = alone_on g.P.Pages.terms c.args.set.now (g.P.Pages.view c.args.pages.now) (g.P.Pages.view c.loop-round.pages) c.loop-round.invariant c.requires.alone

pub copy_once-requires-clause-room : goal.copy_once-requires-clause-room
copy_once-requires-clause-room g c =
    let held = c.loop-round.invariant.held in
    let grant = c.loop-round.invariant.grant in
    let room = c.requires.room in
    omega (arith, held, grant, room)

pub loop-round-init : goal.loop-round-init
loop-round-init g c = changes_none g.P.Pages.terms nothing (g.P.Pages.view c.args.pages.now)

pub loop-round-preserved : goal.loop-round-preserved
loop-round-preserved g c = changes_then g.P.Pages.terms nothing nothing nothing (g.P.Pages.view c.args.pages.now) (g.P.Pages.view c.loop-round.pages) (g.P.Pages.view c.copy_once.new.pages) c.loop-round.invariant c.copy_once.ensures.changes
