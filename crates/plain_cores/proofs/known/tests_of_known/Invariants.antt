use Rattle.std.proofs.Common.{◌≡◌, map, take}
use Rattle.plain_rows.specs.Tests.{parts_in}
use Rattle.plain_cores.specs.Known.{known_parts}
use Rattle.plain_cores.proofs.known.tests_of_known.Given as goal

abbrev pub invariant-loop-known : goal.invariant-loop-known
invariant-loop-known l = map parts_in l.tests.items ≡ map known_parts (take l.known-index l.knowns)
