use Rattle.std.proofs.Common.{◌≡◌, drop}
use Rattle.std.specs.List.{fold}
use Rattle.ooc_types.specs.Canonical.{canonical}
use Rattle.row_hash.specs.Hash.{fnv_step, fnv_start}
use Rattle.row_hash.proofs.hash.hash_key.Given as goal

abbrev pub invariant-loop-value : goal.invariant-loop-value
invariant-loop-value l = fold fnv_step l.hash (canonical (drop l.value-index l.key)) ≡ fold fnv_step fnv_start (canonical l.key)
