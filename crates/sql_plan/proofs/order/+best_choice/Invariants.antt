use Rattle.std.proofs.Common.{length}
use Rattle.sql_plan.proofs.order.+best_choice.Given as goal

abbrev pub decreases-best_choice : goal.decreases-best_choice
decreases-best_choice l = length l.rest.now
