use Rattle.std.proofs.Common.{rules, ap, refl}
use Rattle.page_pool.proofs.Numbers.{goes, returns}
use Rattle.page_pool.proofs.pool.Pool.seal.Goals as goal

pub invariant_of-seat-in-Ok-make_page : goal.invariant_of-seat-in-Ok-make_page
invariant_of-seat-in-Ok-make_page g c = record { out = goes c.args.seat.now.open.items _ c.args.seat.now.ring.held _ c.place_of-place.result c.args.page.frame.number c.remove-share.ensures.items (ap (λ s. s.held) c.give_page.ensures) (search rules) c.requires.open.own c.args.seat.now.out }

pub invariant_of-seat-in-Err-make_page : goal.invariant_of-seat-in-Err-make_page
invariant_of-seat-in-Err-make_page g c = record { out = returns c.args.seat.now.open.items _ _ c.args.seat.now.ring.held _ c.place_of-place.result c.args.page.frame.number _ c.remove-share.ensures.items c.push_reserved.ensures.items refl refl (search rules) c.requires.open.own c.args.seat.now.out }
