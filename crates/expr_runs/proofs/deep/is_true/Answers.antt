use Rattle.ooc_types.specs.declared.schema.SqlType.TheVariants.{Boolean}
use Rattle.expr_runs.proofs.Built.{fits}
use Rattle.expr_runs.proofs.deep.is_true.Goals as goal

pub truth_of-requires-clause-fits : goal.truth_of-requires-clause-fits
truth_of-requires-clause-fits c = fits Boolean c.args.expr.now c.args.row.now c.as_slice.result.now c.requires.built c.requires.meets c.as_slice.ensures
