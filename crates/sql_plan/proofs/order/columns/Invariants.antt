use Rattle.std.proofs.Common.{◌≡◌, ◌+◌, drop}
use Rattle.plan_tree.specs.Order.{columns_in}
use Rattle.sql_plan.proofs.order.columns.Given as goal

abbrev pub invariant-loop-entry : goal.invariant-loop-entry
invariant-loop-entry l = l.columns + columns_in (drop l.entry-index l.entries) ≡ columns_in l.entries
