use Rattle.std.proofs.Common.{◌≡◌, ◌++◌, take}
use Rattle.std.specs.Prelude.{flat_map}
use Rattle.plain_cores.specs.Known.{faults_in}
use Rattle.plain_cores.proofs.known.note_all_known.Given as goal

abbrev pub invariant-loop-known : goal.invariant-loop-known
invariant-loop-known l = l.into.items ≡ l.fn.into.items ++ flat_map faults_in (take l.known-index l.knowns)
