use Rattle.std.proofs.Common.{◌≡◌, ◌++◌, drop}
use Rattle.std.specs.List.{filter_map}
use Rattle.sql_plan.specs.Sources.{plain_conjunct}
use Rattle.sql_plan.proofs.sources.plain_conjuncts.Given as goal

abbrev pub invariant-loop-conjunct : goal.invariant-loop-conjunct
invariant-loop-conjunct l = l.plain ++ filter_map plain_conjunct (drop l.conjunct-index l.conjuncts) ≡ filter_map plain_conjunct l.conjuncts
