use Rattle.std.proofs.Common.{◌+◌, ◌-◌, ◌%◌, arith, length-set}
use Rattle.ooc_decimal.proofs.LastPlaces.{one_more}
use Rattle.ooc_decimal.proofs.places.fill_places.Goals as goal

pub loop-at-preserved : goal.loop-at-preserved
loop-at-preserved c =
    let l = c.loop-at in
    record {
      within = omega (arith, length-set l.part (l.at - 1) (48 + l.rest % 10));
      digits = one_more l.part l.at l.rest _ c.loop-at-test.true l.invariant.within l.invariant.digits;
    }
