use Rattle.std.proofs.Common.{false}
use Rattle.expr_runs.proofs.Built.{built_between, same_built}
use Rattle.expr_runs.proofs.build.between.Goals as goal

pub returns : goal.returns
returns c =
    built_between c.args.kind c.in_ok-of.of c.in_ok-low.low c.in_ok-high.high false
    (same_built c.args.kind c.in_ok-of.of c.args.of c.in_ok-of.ensures c.requires.of)
    (same_built c.args.kind c.in_ok-low.low c.args.low c.in_ok-low.ensures c.requires.low)
    (same_built c.args.kind c.in_ok-high.high c.args.high c.in_ok-high.ensures c.requires.high)
