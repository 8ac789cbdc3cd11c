use Rattle.ooc_decimal.proofs.Signs.{opposite}
use Rattle.ooc_decimal.proofs.signed.opposite.Goals as goal

pub returns-clause-value : goal.returns-clause-value
returns-clause-value c = opposite c.args.number.negative c.args.number.magnitude
