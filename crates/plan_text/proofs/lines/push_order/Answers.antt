use Rattle.plan_text.proofs.Going.{all_kept}
use Rattle.plan_text.proofs.lines.push_order.Goals as goal

pub returns-in_err-line-clause-err : goal.returns-in_err-line-clause-err
returns-in_err-line-clause-err c = all_kept c.from_residual.result c.args.into.now.items
