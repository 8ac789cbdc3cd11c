use Rattle.expr_runs.proofs.Built.{built_one_of, same_built}
use Rattle.expr_runs.proofs.build.one_of.Goals as goal

pub returns : goal.returns
returns c =
    built_one_of c.args.kind c.in_ok-of.of c.args.list c.args.negated
    (same_built c.args.kind c.in_ok-of.of c.args.of c.in_ok-of.ensures c.requires.of) c.requires.list
