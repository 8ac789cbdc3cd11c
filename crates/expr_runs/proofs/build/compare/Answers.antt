use Rattle.expr_runs.proofs.Built.{built_compare, same_built}
use Rattle.expr_runs.proofs.build.compare.Goals as goal

pub returns : goal.returns
returns c =
    built_compare c.args.sign c.args.kind c.in_ok-left.left c.in_ok-right.right
    (same_built c.args.kind c.in_ok-left.left c.args.left c.in_ok-left.ensures c.requires.left)
    (same_built c.args.kind c.in_ok-right.right c.args.right c.in_ok-right.ensures c.requires.right)
