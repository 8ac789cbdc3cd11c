use Rattle.std.proofs.Common.{arith}
use Rattle.sql_plan.specs.Chosen.{columns_limit}
use Rattle.sql_plan.proofs.SourceLemmas.{columns_next}
use Rattle.plan_tree.specs.Plannable.{columns_of_sources}
use Rattle.sql_plan.proofs.sources.entries.Goals as goal

pub overflow_add-start : goal.overflow_add-start
unfolding columns_limit
overflow_add-start c =
    let e = columns_next c.args.sources.now c.loop-place.place c.index-sources-place.result c.loop-place.start (columns_of_sources c.args.sources.now) c.loop-place-test.true c.index-sources-place.is c.loop-place.invariant.columns in
    omega (arith, c.requires, c.width_of-width.ensures)
