use Rattle.std.proofs.Common.{◌≡◌, take}
use Rattle.std.specs.Prelude.{flat_map}
use Rattle.plain_cores.proofs.cores.inner_faults.Given as goal

abbrev pub invariant-loop-source : goal.invariant-loop-source
invariant-loop-source l = l.faults.items ≡ flat_map (λ source. source.found.faults.items) (take l.source-index l.sources)
