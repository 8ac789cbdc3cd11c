use Rattle.plan_text.proofs.Going.{all_written, and_then, front_kept}
use Rattle.plan_text.proofs.walk.push_block.Goals as goal

pub returns-clause-ok : goal.returns-clause-ok
returns-clause-ok c = all_written (and_then c.add_text-header.ensures (and_then c.add_select-lines.ensures c.add_text.ensures))

pub returns-clause-err : goal.returns-clause-err
returns-clause-err c = front_kept (and_then c.add_text-header.ensures (and_then c.add_select-lines.ensures c.add_text.ensures))
