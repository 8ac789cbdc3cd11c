use Rattle.expr_runs.proofs.Built.{built_either}
use Rattle.expr_runs.proofs.build.either.Goals as goal

pub returns : goal.returns
returns c = built_either c.args.list c.requires
