use Rattle.std.proofs.Common.{arith, ◌<◌, ◌==◌, length, ℕ}
use Rattle.std.proofs.lemmas.Bool.{ne_eqb}
use Rattle.std.specs.Prelude.{slice_range, slice_index}
use Rattle.csv_records.proofs.Cutting.{range-more, lacks-more}
use Rattle.csv_load.proofs.plain.field_end.Goals as goal

pub loop-i-preserved : goal.loop-i-preserved
loop-i-preserved c =
    let record_ = c.args.bytes.now in
    let i = c.loop-i.i in
    let lt : i < length record_ = omega arith in
    let next = slice_index record_ i in
    rw (range-more record_ c.args.from i c.loop-i.auto.i lt)
    (lacks-more (λ (b : ℕ). b == c.args.delimiter) (slice_range record_ c.args.from i) next c.loop-i.invariant (ne_eqb next c.args.delimiter c.if-bytes-i.false))
