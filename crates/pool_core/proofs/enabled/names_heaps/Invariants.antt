use Rattle.std.proofs.Common.{ℕ, ◌<◌, get_or, None}
use Rattle.pool_core.specs.Enabled.{NamesHeap}
use Rattle.pool_core.proofs.enabled.names_heaps.Given as goal

abbrev pub invariant-loop-part : goal.invariant-loop-part
invariant-loop-part l = (part : ℕ) → part < l.part → NamesHeap l.pages l.kind l.image part (get_or l.named part None)
