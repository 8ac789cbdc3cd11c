use Rattle.std.proofs.Common.{[], map, length}
use Rattle.plan_tree.specs.Order.{columns_in, picks}
use Rattle.sql_plan.specs.Chosen.{chosen_of}
use Rattle.sql_plan.proofs.ChosenLemmas.{IsChosen}
use Rattle.sql_plan.proofs.order.choose.Given as goal

abbrev pub invariant-loop-one : goal.invariant-loop-one
invariant-loop-one l = IsChosen l.pool (map chosen_of (picks (length l.fn.entries) l.pool [] l.fn.entries)) (columns_in l.fn.entries) l.chosen l.placed l.left

abbrev pub decreases-loop-one : goal.decreases-loop-one
decreases-loop-one l = length l.left
