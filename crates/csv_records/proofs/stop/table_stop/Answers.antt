use Rattle.std.proofs.Common.{◌<◌, sym, refl, length, arith}
use Rattle.csv_records.specs.Table.{state_after}
use Rattle.csv_records.proofs.Cutting.{range-none, state-next}
use Rattle.csv_records.proofs.stop.table_stop.Goals as goal

pub loop-i-init : goal.loop-i-init
unfolding state_after
loop-i-init c = rw (range-none c.args.text.now c.args.from) refl

pub loop-i-preserved : goal.loop-i-preserved
loop-i-preserved c =
    let lt : c.loop-i.i < length c.args.text.now = omega arith in
    state-next c.args.delimiter c.args.start c.args.text.now c.args.from c.loop-i.i c.loop-i.mark c.in-Some.next c.loop-i.auto.i lt c.loop-i.invariant (sym c.in-Some.ensures)
