use Rattle.std.proofs.Common.{◌≡◌, map, take}
use Rattle.plain_groups.specs.Keys.{one_in}
use Rattle.plain_groups.proofs.keyed.all_keys.Given as goal

abbrev pub invariant-loop-one : goal.invariant-loop-one
invariant-loop-one l = l.keys.items ≡ map (λ one. one.key) (map one_in (take l.one-index l.keyed))
