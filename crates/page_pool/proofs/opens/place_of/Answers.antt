use Rattle.std.proofs.Common.{rules, arith, ◌≡◌, ◌≢◌, ℕ, suc, ◌+◌, ◌<◌, length, drop, subst}
use Rattle.number_bags.specs.Bags.{times}
use Rattle.page_pool.specs.Numbers.{numbers_of}
use Rattle.page_pool.proofs.Numbers.{further_on}
use Rattle.page_pool.proofs.opens.place_of.Goals as goal

pub loop-place-preserved : goal.loop-place-preserved
loop-place-preserved g c =
    let at : c.loop-place.place < length c.args.turns.now = search rules in
    let other : c.index-turns-place.result.number ≢ c.args.number = search rules in
    let next : suc c.loop-place.place ≡ c.loop-place.place + 1 = omega arith in
    subst (λ (k : ℕ). 0 < times (numbers_of (drop k c.args.turns.now)) c.args.number) next (further_on c.args.turns.now c.loop-place.place c.args.number c.index-turns-place.result at c.index-turns-place.is other c.loop-place.invariant)
