use Rattle.std.proofs.Common.{◌≡◌, ◌++◌, drop}
use Rattle.std.specs.List.{filter_map}
use Rattle.plan_tree.specs.Split.{linked_columns}
use Rattle.sql_plan.proofs.free.equalities.Given as goal

abbrev pub invariant-loop-expr : goal.invariant-loop-expr
invariant-loop-expr l = l.links ++ filter_map linked_columns (drop l.expr-index l.pool) ≡ filter_map linked_columns l.pool
