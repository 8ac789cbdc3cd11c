use Rattle.std.proofs.Common.{◌≡◌, drop}
use Rattle.std.specs.List.{list_all}
use Rattle.table_scan.specs.Scan.{is_condition}
use Rattle.table_scan.proofs.scan.are_conditions.Given as goal

abbrev pub invariant-loop-conjunct : goal.invariant-loop-conjunct
invariant-loop-conjunct l = list_all is_condition (drop l.conjunct-index l.conjuncts) ≡ list_all is_condition l.conjuncts
