use Rattle.std.proofs.Common.{drop}
use Rattle.bind_rules.specs.Bound.{link_aggregates, operand_aggregates}
use Rattle.bind_rules.specs.Expressions.{some_of}
use Rattle.bind_rules.proofs.Standing.{StandsSoFar}
use Rattle.bind_rules.proofs.aggregates.+aggregates.Given as goal

abbrev pub invariant-in_links-loop-link : goal.invariant-in_links-loop-link
invariant-in_links-loop-link l = StandsSoFar (link_aggregates l.scope.script) (some_of (link_aggregates l.scope.script) l.links) l.stands (drop l.link-index l.links)

abbrev pub invariant-in_operands-loop-operand : goal.invariant-in_operands-loop-operand
invariant-in_operands-loop-operand l = StandsSoFar (operand_aggregates l.scope.script) (some_of (operand_aggregates l.scope.script) l.others) l.stands (drop l.operand-index l.others)
