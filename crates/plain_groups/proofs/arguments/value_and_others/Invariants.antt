use Rattle.std.proofs.Common.{◌≡◌, ◌∷◌, take}
use Rattle.plain_groups.specs.Arguments.{other_values}
use Rattle.plain_groups.proofs.arguments.value_and_others.Given as goal

abbrev pub invariant-loop-other : goal.invariant-loop-other
invariant-loop-other l = l.all.items ≡ l.value ∷ other_values l.value (take l.other-index l.values)
