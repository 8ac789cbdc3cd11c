use Rattle.std.proofs.Common.{ap, arith}
use Rattle.sql_plan.specs.Chosen.{columns_chosen, columns_limit}
use Rattle.sql_plan.proofs.ChosenLemmas.{chosen_at}
use Rattle.sql_plan.proofs.order.+places.Goals as goal

pub overflow_add-end : goal.overflow_add-end
unfolding columns_limit
overflow_add-end t c =
    let e = ap columns_chosen (chosen_at c.args.chosen.now 0 (record { entry = record { place = 0; start = 0; width = 0; rows = 0 }; before = 0 }) (omega (arith, c.in-len1-up.len_at_least))) in
    omega (arith, c.requires)
