use Rattle.plan_tree.specs.declared.stages.PlanConjunct.TheOpen.{PlanRows-F}
use Rattle.plan_tree.specs.declared.stages.PlanConjunct.TheViews.{roll-PlanRows}
use Rattle.sql_plan.proofs.Going.{through_both}
use Rattle.sql_plan.proofs.cores.set_rows.Goals as goal

pub returns : goal.returns
returns c =
    through_both (λ left right. roll-PlanRows (PlanRows-F.Set c.args.kind c.args.all left right)) c.args.left c.boxed_rows.result c.args.right c.boxed_rows-2.result c.both.result c.set_of.result
    c.boxed_rows.ensures c.boxed_rows-2.ensures c.both.ensures c.set_of.ensures
