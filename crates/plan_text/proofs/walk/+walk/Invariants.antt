use Rattle.std.proofs.Common.{take}
use Rattle.std.specs.List.{flat_map}
use Rattle.plan_text.specs.Explained.{conjunct_lines, query_lines}
use Rattle.plan_text.specs.Going.{Continues}
use Rattle.plan_text.proofs.walk.+walk.Given as goal

abbrev pub invariant-add_queries-loop-source : goal.invariant-add_queries-loop-source
invariant-add_queries-loop-source l = Continues l.fn.written l.fn.into.items (flat_map query_lines (take l.source-index l.sources)) l.lines l.into.items

abbrev pub invariant-add_members-loop-conjunct : goal.invariant-add_members-loop-conjunct
invariant-add_members-loop-conjunct l = Continues l.fn.written l.fn.into.items (flat_map conjunct_lines (take l.conjunct-index l.conjuncts)) l.lines l.into.items
