use Rattle.plan_text.proofs.Going.{all_written, front_kept}
use Rattle.plan_text.proofs.stages.push_joins.Goals as goal

pub returns-clause-ok : goal.returns-clause-ok
returns-clause-ok c = all_written c.add_joins.ensures

pub returns-clause-err : goal.returns-clause-err
returns-clause-err c = front_kept c.add_joins.ensures
