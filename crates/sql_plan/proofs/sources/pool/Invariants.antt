use Rattle.std.proofs.Common.{◌≡◌, ◌++◌, drop}
use Rattle.std.specs.List.{filter_map}
use Rattle.sql_plan.specs.Sources.{plain_conjunct, ons_in}
use Rattle.sql_plan.proofs.sources.pool.Given as goal

abbrev pub invariant-loop-source : goal.invariant-loop-source
invariant-loop-source l = l.pool ++ ons_in (drop l.source-index l.sources) ≡ filter_map plain_conjunct l.conjuncts ++ ons_in l.sources
