use Rattle.std.proofs.Common.{length}
use Rattle.sql_plan.proofs.order.+places.Given as goal

abbrev pub decreases-places : goal.decreases-places
decreases-places l = length l.chosen.now
