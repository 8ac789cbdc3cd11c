use Rattle.std.proofs.Common.{take}
use Rattle.table_scan.specs.Scan.{conditions_among}
use Rattle.table_scan.specs.Typed.{AreTests}
use Rattle.table_scan.proofs.reading.tests_of.Given as goal

abbrev pub invariant-loop-conjunct : goal.invariant-loop-conjunct
invariant-loop-conjunct l = AreTests l.tests.items (conditions_among (take l.conjunct-index l.conjuncts))
