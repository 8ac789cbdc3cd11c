use Rattle.table_scan.proofs.Testing.{tests-next}
use Rattle.table_scan.proofs.reading.tests_of.Goals as goal

pub loop-conjunct-preserved : goal.loop-conjunct-preserved
loop-conjunct-preserved c =
    let adds = c.in_ok-add_test.ensures in
    tests-next c.args.conjuncts.now c.loop-conjunct.conjunct-index c.conjunct-item.result c.loop-conjunct.tests.items c.add_test.new.into.items adds.more c.loop-conjunct-test.true c.conjunct-item.is
    c.loop-conjunct.invariant adds.adds adds.are
