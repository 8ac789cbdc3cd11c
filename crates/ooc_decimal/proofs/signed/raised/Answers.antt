use Rattle.std.proofs.Common.{◌^◌}
use Rattle.ooc_decimal.proofs.OutOfRange.{raised_too_large}
use Rattle.ooc_decimal.proofs.signed.raised.Goals as goal

pub returns-in-None : goal.returns-in-None
returns-in-None c = raised_too_large c.args.kind c.requires c.args.a.negative c.args.a.magnitude (10 ^ c.args.places) c.in-None.ensures
