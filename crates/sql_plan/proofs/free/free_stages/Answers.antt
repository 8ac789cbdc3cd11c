use Rattle.std.proofs.Common.{ap, arith}
use Rattle.sql_plan.specs.Chosen.{columns_chosen, columns_limit}
use Rattle.sql_plan.proofs.ChosenLemmas.{chosen_at}
use Rattle.sql_plan.proofs.free.free_stages.Goals as goal

pub overflow_add-at : goal.overflow_add-at
unfolding columns_limit
overflow_add-at c =
    let e = ap columns_chosen (chosen_at c.args.chosen.now c.loop-one.one-index (record { entry = record { place = 0; start = 0; width = 0; rows = 0 }; before = 0 }) c.loop-one-test.true) in
    omega (arith, c.requires.columns, c.loop-one.invariant.columns)
