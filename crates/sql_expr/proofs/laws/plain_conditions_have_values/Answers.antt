use Rattle.sql_expr.proofs.Faultless.{plain_is_faultless}
use Rattle.sql_expr.proofs.laws.plain_conditions_have_values.Goals as goal

pub returns : goal.returns
returns c = plain_is_faultless
