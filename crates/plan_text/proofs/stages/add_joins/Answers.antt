use Rattle.std.proofs.Common.{ap, arith}
use Rattle.std.specs.List.{flat_map}
use Rattle.std.proofs.lemmas.List.{take_all}
use Rattle.plan_text.specs.Explained.{join_of}
use Rattle.plan_text.proofs.Going.{and_then, flat_next, nothing_more, same_part}
use Rattle.plan_text.proofs.stages.add_joins.Goals as goal

pub loop-source-init : goal.loop-source-init
loop-source-init c = nothing_more c.args.written c.args.into.now.items

pub loop-source-preserved : goal.loop-source-preserved
loop-source-preserved c =
    same_part (flat_next join_of c.args.sources.now c.loop-source.source-index c.source-item.result c.loop-source-test.true c.source-item.is)
    (and_then c.loop-source.invariant c.add_join-lines.ensures)

pub returns : goal.returns
returns c = same_part (ap (flat_map join_of) (take_all c.loop-source.source-index c.args.sources.now (omega arith))) c.loop-source.invariant
