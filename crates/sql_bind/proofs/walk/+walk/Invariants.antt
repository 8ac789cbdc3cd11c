use Rattle.std.proofs.Common.{drop, []}
use Rattle.std.specs.Prelude.{Ok}
use Rattle.sql_scope.specs.Answer.{each}
use Rattle.sql_scope.proofs.Each.{SoFar}
use Rattle.bind_rules.specs.Bound.{link_behind, operand_behind, filter_behind, source_behind, on_behind, key_behind, item_behind, set_behind, no_outputs}
use Rattle.bind_rules.proofs.Loops.{Far}
use Rattle.sql_bind.proofs.walk.+walk.Given as goal

abbrev pub invariant-bind_links-loop-link : goal.invariant-bind_links-loop-link
invariant-bind_links-loop-link l = Far (link_behind l.scope) l.links l.fn.first l.chain (drop l.link-index l.links)

abbrev pub invariant-bind_operands-loop-other : goal.invariant-bind_operands-loop-other
invariant-bind_operands-loop-other l = Far (operand_behind l.scope) l.others l.fn.first l.all (drop l.other-index l.others)

abbrev pub invariant-bind_conjuncts-loop-other : goal.invariant-bind_conjuncts-loop-other
invariant-bind_conjuncts-loop-other l = Far (filter_behind l.scope) l.others l.fn.first l.filter (drop l.other-index l.others)

abbrev pub invariant-bind_joins-loop-join : goal.invariant-bind_joins-loop-join
invariant-bind_joins-loop-join l = Far (source_behind l.scope) l.joins l.fn.first l.sources (drop l.join-index l.joins)

abbrev pub invariant-bind_ons-loop-join : goal.invariant-bind_ons-loop-join
invariant-bind_ons-loop-join l = Far (on_behind l.scope) l.joins l.fn.first l.all (drop l.join-index l.joins)

abbrev pub invariant-bind_keys-loop-key : goal.invariant-bind_keys-loop-key
invariant-bind_keys-loop-key l = SoFar (key_behind l.scope) (each (key_behind l.scope) (Ok []) l.group) l.keys (drop l.key-index l.group)

abbrev pub invariant-bind_items-loop-item : goal.invariant-bind_items-loop-item
invariant-bind_items-loop-item l = SoFar (item_behind l.scope l.grouped) (each (item_behind l.scope l.grouped) (Ok no_outputs) l.items) l.outputs (drop l.item-index l.items)

abbrev pub invariant-bind_sets-loop-other : goal.invariant-bind_sets-loop-other
invariant-bind_sets-loop-other l = Far (set_behind l.scope) l.others l.fn.first l.left (drop l.other-index l.others)
