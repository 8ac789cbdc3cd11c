use Rattle.expr_runs.proofs.Built.{fits}
use Rattle.expr_runs.proofs.runs.overflows.Goals as goal

pub eval-requires : goal.eval-requires
eval-requires c = fits c.args.kind c.args.expr.now c.args.row.now c.as_slice.result.now c.requires.built c.requires.meets c.as_slice.ensures
