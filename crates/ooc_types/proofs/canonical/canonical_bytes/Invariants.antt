use Rattle.std.proofs.Common.{◌≡◌, ◌++◌, ◌<◌, ℕ, drop, slice_index_or}
use Rattle.ooc_types.specs.declared.value.Value.{Value}
use Rattle.ooc_types.specs.Canonical.{canonical}
use Rattle.ooc_types.specs.Keys.{IsHeld}
use Rattle.ooc_types.proofs.canonical.canonical_bytes.Given as goal

abbrev pub invariant-loop-value : goal.invariant-loop-value
invariant-loop-value l = record {
  held : (k : ℕ) → k < l.value-index → (d : Value) → IsHeld (slice_index_or l.key k d);
  bytes : l.bytes.items ++ canonical (drop l.value-index l.key) ≡ canonical l.key;
}
