use Rattle.std.proofs.Common.{arith}
use Rattle.mem_division.proofs.Filling.{drop_below}
use Rattle.mem_division.proofs.level.greatest_most.Goals as goal

pub loop-i-preserved : goal.loop-i-preserved
loop-i-preserved c = λ n high all.
    let e = c.max-greatest.ensures in
    c.loop-i.invariant n (omega arith) (drop_below n c.loop-i.i c.args.wants.now (0, 0) c.loop-i-test.true (omega arith) all)
