use Rattle.expr_runs.proofs.Built.{built_column}
use Rattle.expr_runs.proofs.build.column.Goals as goal

pub returns : goal.returns
returns c = built_column c.args.place c.args.kind c.requires
