use Rattle.expr_runs.proofs.Built.{built_chain}
use Rattle.expr_runs.proofs.build.chain.Goals as goal

pub returns : goal.returns
returns c =
    built_chain c.args.first c.in_ok-first.first c.in_ok-links.links c.args.sign c.args.right c.args.left c.args.with c.args.kind
    c.in_ok-first.ensures c.in_ok-links.ensures c.requires.first c.requires.right c.requires.linked
