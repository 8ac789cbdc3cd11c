use Rattle.plan_text.proofs.Going.{stopped, went_on}
use Rattle.plan_text.proofs.parts.add_order.Goals as goal

pub returns-in-Ok : goal.returns-in-Ok
returns-in-Ok c = went_on c.in-Ok.is c.push_cut.ensures.ok c.push_cut.ensures.err

pub returns-in-Err : goal.returns-in-Err
returns-in-Err c = stopped c.in-Err.is
