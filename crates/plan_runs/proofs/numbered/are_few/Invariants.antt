use Rattle.std.proofs.Common.{◌≡◌, ◌+◌, drop}
use Rattle.plan_tree.specs.Plannable.{columns_of_sources}
use Rattle.plan_runs.proofs.numbered.are_few.Given as goal

abbrev pub invariant-loop-source : goal.invariant-loop-source
invariant-loop-source l = l.left + columns_of_sources l.sources ≡ 4294967295 + columns_of_sources (drop l.source-index l.sources)
