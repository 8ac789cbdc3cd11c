use Rattle.sql_meaning.proofs.Planning.{free_stages_mean}
use Rattle.sql_meaning.proofs.laws.free_plans_mean_the_select.Goals as goal

pub returns : goal.returns
returns c core planned sources sides loops bare left are plan = free_stages_mean core sources sides loops bare left planned are plan
