use Rattle.std.proofs.Common.{take}
use Rattle.std.specs.List.{flat_map}
use Rattle.plan_text.specs.Explained.{join_of}
use Rattle.plan_text.specs.Going.{Continues}
use Rattle.plan_text.proofs.stages.add_joins.Given as goal

abbrev pub invariant-loop-source : goal.invariant-loop-source
invariant-loop-source l = Continues l.fn.written l.fn.into.items (flat_map join_of (take l.source-index l.sources)) l.lines l.into.items
