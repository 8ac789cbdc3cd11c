use Rattle.sql_scope.proofs.DayTexts.{found_day}
use Rattle.sql_scope.proofs.literals.day_of.Goals as goal

pub returns : goal.returns
returns c = found_day c.read_date.result c.args.text.now c.read_date.ensures.some c.read_date.ensures.none
