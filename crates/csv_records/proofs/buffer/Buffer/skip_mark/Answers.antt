use Rattle.std.proofs.Common.{◌≡◌, ◌≤◌, ◌+◌, ◌-◌, take, drop, length, arith, sym, ◌∙◌, length-take, refl}
use Rattle.std.specs.Prelude.{slice_range}
use Rattle.csv.specs.Reading.{strip_bom}
use Rattle.csv_records.proofs.Ranges.{range-later}
use Rattle.csv_records.proofs.buffer.Buffer.skip_mark.Goals as goal

pub returns-then-begins_with_mark-clause-mark : goal.returns-then-begins_with_mark-clause-mark
returns-then-begins_with_mark-clause-mark c =
    let s = c.args.self.now in
    let mark : strip_bom (slice_range s.buffer.items s.at s.filled) ≡ drop 3 (slice_range s.buffer.items s.at s.filled) = rw c.deref.ensures.value at c.if-begins_with_mark.ensures.mark in
    let wide : 3 ≤ length (take (s.filled - s.at) (drop s.at c.deref.result.now)) = c.if-begins_with_mark.ensures.room refl in
    let room : s.at + 3 ≤ s.filled = omega (arith, wide, length-take (s.filled - s.at) (drop s.at c.deref.result.now)) in
    range-later s.buffer.items s.at s.filled 3 room ∙ sym mark

pub returns-clause-mark : goal.returns-clause-mark
returns-clause-mark c = sym (rw c.deref.ensures.value at c.if-begins_with_mark.ensures.mark)
