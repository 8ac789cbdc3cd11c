use Rattle.ooc_types.specs.declared.schema.SqlType.TheVariants.{Varchar}
use Rattle.expr_runs.proofs.Built.{built_like, same_built}
use Rattle.expr_runs.proofs.build.like.Goals as goal

pub returns : goal.returns
returns c =
    built_like c.in_ok-of.of c.in_ok-pattern.pattern c.args.negated (same_built Varchar c.in_ok-of.of c.args.of c.in_ok-of.ensures c.requires)
