use Rattle.std.proofs.Common.{arith}
use Rattle.sql_plan.specs.Chosen.{columns_limit}
use Rattle.sql_plan.proofs.sources.width_of.Goals as goal

pub overflow_cast-result : goal.overflow_cast-result
unfolding columns_limit
overflow_cast-result c = omega (arith, c.requires, c.len.ensures)
