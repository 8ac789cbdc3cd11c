use Rattle.std.proofs.Common.{rules, arith, ◌≡◌, ◌≢◌, ℕ, suc, ◌+◌, ◌<◌, length, drop, subst}
use Rattle.std.specs.Prelude.{slice_index}
use Rattle.number_bags.specs.Bags.{times}
use Rattle.evict_ring.proofs.Seated.{further}
use Rattle.evict_ring.proofs.spin.place_of.Goals as goal

pub loop-place-preserved : goal.loop-place-preserved
loop-place-preserved c =
    let at : c.loop-place.place < length c.args.list.now = search rules in
    let other : slice_index c.args.list.now c.loop-place.place ≢ c.args.number = search rules in
    let next : suc c.loop-place.place ≡ c.loop-place.place + 1 = omega arith in
    subst (λ (n : ℕ). 0 < times (drop n c.args.list.now) c.args.number) next (further _ _ _ at other c.loop-place.invariant)
