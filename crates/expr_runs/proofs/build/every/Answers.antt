use Rattle.expr_runs.proofs.Built.{built_every}
use Rattle.expr_runs.proofs.build.every.Goals as goal

pub returns : goal.returns
returns c = built_every c.args.list c.requires
