use Rattle.std.proofs.Common.{◌≢◌, ℕ, ◌<◌, get_or, None}
use Rattle.std.specs.Prelude.{IsSomeAnd}
use Rattle.row_image.specs.Image.{part_at, no_heap}
use Rattle.pool_core.specs.Enabled.{HoldsHeap}
use Rattle.pool_core.proofs.enabled.holds_heaps.Given as goal

abbrev pub invariant-loop-part : goal.invariant-loop-part
invariant-loop-part l = (part : ℕ) → part < l.part → (part_at l.image part).heap ≢ no_heap
    → IsSomeAnd (get_or l.heaps part None) (λ heap. HoldsHeap l.bytes l.pages l.actor (part_at l.image part).base heap)
