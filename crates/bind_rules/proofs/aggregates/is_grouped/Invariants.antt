use Rattle.std.proofs.Common.{◌≡◌, drop}
use Rattle.std.specs.Prelude.{◌||◌}
use Rattle.bind_rules.specs.Bound.{item_aggregates}
use Rattle.bind_rules.specs.Expressions.{some_of}
use Rattle.bind_rules.proofs.aggregates.is_grouped.Given as goal

abbrev pub invariant-loop-item : goal.invariant-loop-item
invariant-loop-item l = (l.grouped || some_of (item_aggregates l.scope.script) (drop l.item-index l.items)) ≡ ((l.keys || l.having) || some_of (item_aggregates l.scope.script) l.items)
