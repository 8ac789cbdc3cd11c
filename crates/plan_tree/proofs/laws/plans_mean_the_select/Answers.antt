use Rattle.plan_tree.proofs.WholePlan.{plan-means}
use Rattle.plan_tree.proofs.laws.plans_mean_the_select.Goals as goal

pub returns : goal.returns
returns c = plan-means
