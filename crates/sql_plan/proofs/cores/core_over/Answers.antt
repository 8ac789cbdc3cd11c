use Rattle.bound_tree.specs.declared.select.BoundRows.TheViews.{out-BoundCore}
use Rattle.sql_plan.specs.Cores.{core_with, top_by}
use Rattle.sql_plan.proofs.Going.{beside}
use Rattle.sql_plan.proofs.cores.core_over.Goals as goal

pub returns : goal.returns
returns c =
    beside (core_with c.args.from (out-BoundCore c.args.core.now).distinct) (top_by c.args.from.places c.args.core.now) c.args.others c.top_over-top.result c.both.result c.core_of.result
    c.top_over-top.ensures c.both.ensures c.core_of.ensures
