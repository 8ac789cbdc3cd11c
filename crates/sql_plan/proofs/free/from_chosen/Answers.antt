use Rattle.std.proofs.Common.{arith}
use Rattle.sql_plan.proofs.free.from_chosen.Goals as goal

pub places-requires : goal.places-requires
places-requires c = omega (arith, c.requires.columns)
