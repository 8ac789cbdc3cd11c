use Rattle.std.proofs.Common.{◌<◌, slice_index, ℕ, length, arith}
use Rattle.solo_pool.specs.Sums.{all_used}
use Rattle.solo_pool.proofs.slots.find_idle.Goals as goal

pub unreachable-requires : goal.unreachable-requires
unreachable-requires c =
    let every : (k : ℕ) → k < length c.args.uses.now → 0 < slice_index c.args.uses.now k = λ k h. grind (arith, c.loop-i.invariant k, c.loop-i-2.invariant k) in
    let most = all_used c.args.uses.now every in omega (arith, most, c.requires.room)
