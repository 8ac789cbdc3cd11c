use Rattle.std.proofs.Common.{arith}
use Rattle.sql_plan.specs.Chosen.{columns_limit}
use Rattle.sql_plan.proofs.ChosenLemmas.{columns_at}
use Rattle.sql_plan.proofs.order.columns.Goals as goal

pub overflow_add-columns : goal.overflow_add-columns
unfolding columns_limit
overflow_add-columns c =
    let e = columns_at c.args.entries.now c.loop-entry.entry-index (record { place = 0; start = 0; width = 0; rows = 0 }) c.loop-entry-test.true in
    omega (arith, c.requires, c.loop-entry.invariant)
