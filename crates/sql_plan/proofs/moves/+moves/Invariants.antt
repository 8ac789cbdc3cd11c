use Rattle.std.proofs.Common.{drop, map}
use Rattle.sql_plan.specs.Places.{moved_by, link_moved_by}
use Rattle.sql_plan.proofs.Lists.{SoFar}
use Rattle.sql_plan.proofs.moves.+moves.Given as goal

abbrev pub invariant-move_list-loop-expr : goal.invariant-move_list-loop-expr
invariant-move_list-loop-expr l = SoFar (map (moved_by l.places) l.list) l.moved (map (moved_by l.places) (drop l.expr-index l.list))

abbrev pub invariant-move_links-loop-one : goal.invariant-move_links-loop-one
invariant-move_links-loop-one l = SoFar (map (link_moved_by l.places) l.links) l.moved (map (link_moved_by l.places) (drop l.one-index l.links))
