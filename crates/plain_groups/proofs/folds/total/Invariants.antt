use Rattle.std.proofs.Common.{◌≡◌, take}
use Rattle.sql_meaning.specs.Aggregates.{state_of}
use Rattle.plain_groups.proofs.folds.total.Given as goal

abbrev pub invariant-loop-value : goal.invariant-loop-value
invariant-loop-value l = l.total ≡ (state_of (take l.value-index l.values)).total
