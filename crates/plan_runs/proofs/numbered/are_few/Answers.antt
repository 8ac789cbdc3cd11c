use Rattle.std.proofs.Common.{ap, arith}
use Rattle.std.proofs.lemmas.List.{drop_all}
use Rattle.plan_tree.specs.Plannable.{columns_of_sources}
use Rattle.sql_plan.specs.Chosen.{columns_limit}
use Rattle.sql_plan.proofs.Lists.{drop_is}
use Rattle.plan_runs.proofs.numbered.are_few.Goals as goal

pub loop-source-preserved : goal.loop-source-preserved
loop-source-preserved c =
    let e = ap columns_of_sources (drop_is c.args.sources.now c.loop-source.source-index c.source-item.result c.loop-source-test.true c.source-item.is) in
    omega (arith, c.loop-source.invariant, c.len-width.ensures)

pub returns : goal.returns
unfolding columns_limit
returns c =
    λ h.
    let e = ap columns_of_sources (drop_all c.loop-source.source-index c.args.sources.now (omega arith)) in
    omega (arith, c.loop-source.invariant)
