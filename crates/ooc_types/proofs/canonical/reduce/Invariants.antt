use Rattle.std.proofs.Common.{◌≡◌}
use Rattle.ooc_types.specs.Canonical.{reduce}
use Rattle.ooc_types.proofs.canonical.reduce.Given as goal

abbrev pub invariant-loop-scale : goal.invariant-loop-scale
invariant-loop-scale l = reduce l.digits l.scale ≡ reduce l.fn.digits l.fn.scale

abbrev pub decreases-loop-scale : goal.decreases-loop-scale
decreases-loop-scale l = l.scale
