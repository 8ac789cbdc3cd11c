use Rattle.std.proofs.Common.{length, drop}
use Rattle.sql_clauses.specs.Grouping.{over_group, list_over, link_over, links_over, group_place}
use Rattle.sql_clauses.proofs.Regrouping.{Rest}
use Rattle.sql_clauses.proofs.grouping.+group.Given as goal

abbrev pub invariant-list_over-loop-tree : goal.invariant-list_over-loop-tree
invariant-list_over-loop-tree l =
    Rest (over_group l.keys (group_place (length l.keys) l.width l.calls)) (list_over l.keys (group_place (length l.keys) l.width l.calls) l.list)
    l.over (drop l.tree-index l.list)

abbrev pub invariant-links_over-loop-link : goal.invariant-links_over-loop-link
invariant-links_over-loop-link l =
    Rest (link_over l.keys (group_place (length l.keys) l.width l.calls)) (links_over l.keys (group_place (length l.keys) l.width l.calls) l.links)
    l.over (drop l.link-index l.links)
