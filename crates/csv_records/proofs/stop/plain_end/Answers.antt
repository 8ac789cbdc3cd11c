use Rattle.std.proofs.Common.{arith, ◌<◌, length}
use Rattle.std.specs.Prelude.{slice_range, slice_index}
use Rattle.csv_records.specs.Table.{is_special}
use Rattle.csv_records.proofs.Cutting.{range-more, lacks-more, no-mark}
use Rattle.csv_records.proofs.stop.plain_end.Goals as goal

pub loop-i-preserved : goal.loop-i-preserved
loop-i-preserved c =
    let text = c.args.text.now in
    let i = c.loop-i.i in
    let lt : i < length text = omega arith in
    let next = slice_index text i in
    rw (range-more text c.args.from i c.loop-i.auto.i lt)
    (lacks-more is_special (slice_range text c.args.from i) next c.loop-i.invariant (no-mark next c.if-byte-eq34.false c.if-byte-eq10.false c.if-byte-eq13.false))
