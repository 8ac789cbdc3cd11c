use Rattle.sql_plan.specs.Counted.{counts_in}
use Rattle.sql_plan.proofs.PlanMade.{plan_meant}
use Rattle.sql_plan.proofs.select.plan.Goals as goal

pub returns-clause-means : goal.returns-clause-means
returns-clause-means c = plan_meant (counts_in c.args.counts.now) c.args.select.now c.plan_select.result c.plan_select.ensures
