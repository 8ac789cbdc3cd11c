use Rattle.ooc_decimal.proofs.OutOfRange.{times_too_large}
use Rattle.ooc_decimal.proofs.signed.raised_twice.Goals as goal

pub returns-in-None : goal.returns-in-None
returns-in-None c = times_too_large c.args.kind c.requires.numeric _ c.args.places c.in-None.ensures
