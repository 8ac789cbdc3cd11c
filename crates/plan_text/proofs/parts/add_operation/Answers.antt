use Rattle.plan_text.proofs.Going.{stopped, went_on}
use Rattle.plan_text.proofs.parts.add_operation.Goals as goal

pub returns-in-Ok : goal.returns-in-Ok
returns-in-Ok c = went_on c.in-Ok.is c.push_set.ensures.ok c.push_set.ensures.err

pub returns-in-Err : goal.returns-in-Err
returns-in-Err c = stopped c.in-Err.is
