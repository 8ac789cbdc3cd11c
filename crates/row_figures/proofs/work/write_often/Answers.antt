use Rattle.row_sets.specs.Holds.{nothing}
use Rattle.row_sets.proofs.Changed.{changes_none, changes_then}
use Rattle.row_figures.proofs.work.write_often.Goals as goal

pub loop-round-init : goal.loop-round-init
loop-round-init g c = changes_none g.P.Pages.terms nothing (g.P.Pages.view c.args.pages.now)

pub loop-round-preserved : goal.loop-round-preserved
loop-round-preserved g c = changes_then g.P.Pages.terms nothing nothing nothing (g.P.Pages.view c.args.pages.now) (g.P.Pages.view c.loop-round.pages) (g.P.Pages.view c.write_once.new.pages) c.loop-round.invariant c.write_once.ensures.changes
