use Rattle.std.proofs.Common.{◌≡◌, ◌≤◌, ◌<◌, ◌+◌, true, false, [], length, take, Some, refl, sym, ap, ◌∙◌, arith}
use Rattle.std.specs.Prelude.{slice_range, is_some}
use Rattle.std.specs.List.{list_any}
use Rattle.csv_records.specs.Limits.{record_limit}
use Rattle.csv_records.specs.Table.{is_special, state_after}
use Rattle.csv_records.specs.Stops.{IsStop}
use Rattle.csv_records.specs.Ahead.{FirstIsLong, no_records, told_records}
use Rattle.csv_records.specs.Buffer.{carried_in, position_of}
use Rattle.csv_records.specs.declared.mark.Mark.TheVariants.{FieldStart}
use Rattle.csv_records.proofs.Ranges.{length-range, range-front, range-empty}
use Rattle.csv_records.proofs.Cutting.{range-none}
use Rattle.csv_records.proofs.Finding.{stop-ends, stop-end, stop-runs, record-ahead, long-ahead, part-ahead, last-ahead, none-ahead, over-ahead, stop-found, same-records, then-splits, then-holds}
use Rattle.csv_records.proofs.Filling.{then-same}
use Rattle.csv_records.proofs.buffer.Buffer.next_record.Goals as goal

pub returns-then-found-gt-RECORD_LIMIT-clause-record : goal.returns-then-found-gt-RECORD_LIMIT-clause-record
returns-then-found-gt-RECORD_LIMIT-clause-record g c e =
    let d = c.args.delimiter in
    let p = c.look.self in
    let stop = c.first_stop-stop.result in
    let high : p.filled ≤ length p.buffer.items = omega (arith, p.buffer.ok.0, p.range.1) in
    let is : IsStop d (take p.filled p.buffer.items) p.at stop.place stop.is_open = rw c.deref.ensures.value at c.first_stop-stop.ensures.stop in
    let ends = stop-ends d FieldStart p.buffer.items p.at stop.place p.filled is.state high c.if-stop-self.true is.stops in
    let low : stop.place ≤ length p.buffer.items = omega arith in
    let long : record_limit < length (slice_range p.buffer.items p.at stop.place) =
    omega (arith, length-range p.buffer.items p.at stop.place is.stops.low low, c.leave-found.ensures.long, c.if-found-gt-RECORD_LIMIT.true) in
    then-holds FirstIsLong (told_records d (position_of c.args.self.now) (g.F.Files.left c.args.files.now)) (told_records d (position_of p) (g.F.Files.left c.look.files)) c.look.invariant.records
    (long-ahead d (position_of p) (slice_range p.buffer.items p.at stop.place) (slice_range p.buffer.items (stop.place + 1) p.filled) (g.F.Files.left c.look.files) c.look.invariant.begun ends long)

pub returns-then-found-clause-next : goal.returns-then-found-clause-next
returns-then-found-clause-next g c =
    let d = c.args.delimiter in
    let p = c.look.self in
    let q = c.leave-found.new.self in
    let stop = c.first_stop-stop.result in
    let left = g.F.Files.left c.look.files in
    let high : p.filled ≤ length p.buffer.items = omega (arith, p.buffer.ok.0, p.range.1) in
    let is : IsStop d (take p.filled p.buffer.items) p.at stop.place stop.is_open = rw c.deref.ensures.value at c.first_stop-stop.ensures.stop in
    let ends = stop-ends d FieldStart p.buffer.items p.at stop.place p.filled is.state high c.if-stop-self.true is.stops in
    let low : stop.place ≤ length p.buffer.items = omega arith in
    let some : 0 < length (slice_range p.buffer.items p.at stop.place) =
    omega (arith, length-range p.buffer.items p.at stop.place is.stops.low low, c.leave-found.ensures.long, c.if-found.true) in
    rw c.leave-found.ensures.bytes
    (then-splits (told_records d (position_of c.args.self.now) (g.F.Files.left c.args.files.now)) (told_records d (position_of p) left) (told_records d (position_of q) left) (slice_range p.buffer.items p.at stop.place) c.look.invariant.records
    (record-ahead d (position_of p) (position_of q) (slice_range p.buffer.items p.at stop.place) (slice_range p.buffer.items (stop.place + 1) p.filled) left
    c.look.invariant.begun (c.leave-found.ensures.begun ∙ c.look.invariant.begun) c.leave-found.ensures.carried c.leave-found.ensures.allowed ends some))

pub returns-then-found-clause-found : goal.returns-then-found-clause-found
returns-then-found-clause-found g c =
    let d = c.args.delimiter in
    let p = c.look.self in
    let stop = c.first_stop-stop.result in
    let high : p.filled ≤ length p.buffer.items = omega (arith, p.buffer.ok.0, p.range.1) in
    let is : IsStop d (take p.filled p.buffer.items) p.at stop.place stop.is_open = rw c.deref.ensures.value at c.first_stop-stop.ensures.stop in
    let ends = stop-ends d FieldStart p.buffer.items p.at stop.place p.filled is.state high c.if-stop-self.true is.stops in
    let low : stop.place ≤ length p.buffer.items = omega arith in
    let size = length-range p.buffer.items p.at stop.place is.stops.low low in
    let some : 0 < length (slice_range p.buffer.items p.at stop.place) = omega (arith, size, c.leave-found.ensures.long, c.if-found.true) in
    let most : length (slice_range p.buffer.items p.at stop.place) ≤ record_limit = omega (arith, size, c.leave-found.ensures.long, c.if-found-gt-RECORD_LIMIT.false) in
    let part = range-front p.buffer.items p.at stop.place p.filled is.stops.low (omega arith) in
    let ran : state_after d FieldStart (slice_range p.buffer.items p.at stop.place) ≡ Some is.state = ap (state_after d FieldStart) (sym part) ∙ is.stops.ran in
    let plain : stop.quotes ≡ false → list_any is_special (slice_range (take p.filled p.buffer.items) p.at stop.place) ≡ false = rw c.deref.ensures.value at c.first_stop-stop.ensures.plain in
    rw (c.leave-found.ensures.bytes, c.leave-found.ensures.quotes, c.leave-found.ensures.is_open)
    (stop-found d (slice_range p.buffer.items p.at stop.place) is.state stop.quotes stop.is_open ran some most is.quoted (λ n. ap (list_any is_special) (sym part) ∙ plain n))

pub look-preserved-then-stop-self : goal.look-preserved-then-stop-self
look-preserved-then-stop-self g c =
    let d = c.args.delimiter in
    let p = c.look.self in
    let q = c.leave-found.new.self in
    let stop = c.first_stop-stop.result in
    let left = g.F.Files.left c.look.files in
    let high : p.filled ≤ length p.buffer.items = omega (arith, p.buffer.ok.0, p.range.1) in
    let is : IsStop d (take p.filled p.buffer.items) p.at stop.place stop.is_open = rw c.deref.ensures.value at c.first_stop-stop.ensures.stop in
    let ends = stop-ends d FieldStart p.buffer.items p.at stop.place p.filled is.state high c.if-stop-self.true is.stops in
    let same : stop.place ≡ p.at = omega (arith, is.stops.low, c.leave-found.ensures.long, c.if-found.false) in
    let none : slice_range p.buffer.items p.at stop.place ≡ [] = ap (slice_range p.buffer.items p.at) same ∙ range-none p.buffer.items p.at in
    record {
      opened = c.look.invariant.opened;
      holds = c.look.invariant.holds;
      begun = c.leave-found.ensures.begun ∙ c.look.invariant.begun;
      records = then-same (told_records d (position_of c.args.self.now) (g.F.Files.left c.args.files.now)) (told_records d (position_of p) left) (told_records d (position_of q) left) c.look.invariant.records
          (part-ahead d (position_of p) (position_of q) (slice_range p.buffer.items p.at stop.place) (slice_range p.buffer.items (stop.place + 1) p.filled) left
          c.look.invariant.begun (c.leave-found.ensures.begun ∙ c.look.invariant.begun) c.leave-found.ensures.carried c.leave-found.ensures.allowed ends none);
      total = omega (arith, c.leave-found.ensures.size, c.leave-found.ensures.allowed, c.look.invariant.total);
      later = c.look.invariant.later;
    }

pub returns-then-self-eq0-clause-file : goal.returns-then-self-eq0-clause-file
returns-then-self-eq0-clause-file g c e =
    let d = c.args.delimiter in
    let p = c.look.self in
    let stop = c.first_stop-stop.result in
    let left = g.F.Files.left c.look.files in
    let high : p.filled ≤ length p.buffer.items = omega (arith, p.buffer.ok.0, p.range.1) in
    let is : IsStop d (take p.filled p.buffer.items) p.at stop.place stop.is_open = rw c.deref.ensures.value at c.first_stop-stop.ensures.stop in
    let ran = stop-runs d FieldStart p.buffer.items p.at stop.place p.filled is.state p.range.0 high c.if-stop-self.false is.stops in
    then-holds (λ all. all ≡ no_records true) (told_records d (position_of c.args.self.now) (g.F.Files.left c.args.files.now)) (told_records d (position_of p) left) c.look.invariant.records
    (over-ahead d (position_of p) is.state left c.look.invariant.begun c.if-self-eq0.true ran)

pub long_fault-requires-clause-runs : goal.long_fault-requires-clause-runs
long_fault-requires-clause-runs g c =
    let d = c.args.delimiter in
    let p = c.look.self in
    let stop = c.first_stop-stop.result in
    let high : p.filled ≤ length p.buffer.items = omega (arith, p.buffer.ok.0, p.range.1) in
    let is : IsStop d (take p.filled p.buffer.items) p.at stop.place stop.is_open = rw c.deref.ensures.value at c.first_stop-stop.ensures.stop in
    ap is_some (stop-runs d FieldStart p.buffer.items p.at stop.place p.filled is.state p.range.0 high c.if-stop-self.false is.stops)

pub returns-then-found-2-clause-next : goal.returns-then-found-2-clause-next
returns-then-found-2-clause-next g c =
    let d = c.args.delimiter in
    let p = c.look.self in
    let m = c.fill.new.self in
    let q = c.leave_last-found.new.self in
    let stop = c.first_stop-stop.result in
    let left = g.F.Files.left c.look.files in
    let after = g.F.Files.left c.fill.new.files in
    let high : p.filled ≤ length p.buffer.items = omega (arith, p.buffer.ok.0, p.range.1) in
    let is : IsStop d (take p.filled p.buffer.items) p.at stop.place stop.is_open = rw c.deref.ensures.value at c.first_stop-stop.ensures.stop in
    let ran = stop-runs d FieldStart p.buffer.items p.at stop.place p.filled is.state p.range.0 high c.if-stop-self.false is.stops in
    let e = c.in_ok-fill.ensures in
    let same : carried_in m ≡ carried_in p = e.kept c.if-branch-eq0.true in
    let more : 0 < m.allowed = omega (arith, e.allowed, c.if-branch-eq0.true, c.if-self-eq0.false) in
    let some_before : 0 < p.allowed = omega (arith, c.if-self-eq0.false) in
    let end = e.ended c.if-branch-eq0.true some_before in
    let size = length-range p.buffer.items p.at p.filled p.range.0 high in
    let begun = e.begun ∙ c.look.invariant.begun in
    let records = then-same (told_records d (position_of c.args.self.now) (g.F.Files.left c.args.files.now)) (told_records d (position_of p) left) (told_records d (position_of m) after) c.look.invariant.records
    (same-records d (position_of p) (position_of m) left after e.text) in
    let some : 0 < length (carried_in m) = omega (arith, ap length same, size, e.count, c.if-branch-eq0.true, c.leave_last-found.ensures.long, c.if-found-2.true) in
    let ran_now : state_after d FieldStart (carried_in m) ≡ Some is.state = ap (state_after d FieldStart) same ∙ ran in
    rw c.leave_last-found.ensures.bytes
    (then-splits (told_records d (position_of c.args.self.now) (g.F.Files.left c.args.files.now)) (told_records d (position_of m) after) (told_records d (position_of q) after) (carried_in m) records
    (last-ahead d (position_of m) (position_of q) is.state (carried_in m) after begun (c.leave_last-found.ensures.begun ∙ begun) refl c.leave_last-found.ensures.carried c.leave_last-found.ensures.allowed more end ran_now some))

pub returns-then-found-2-clause-found : goal.returns-then-found-2-clause-found
returns-then-found-2-clause-found g c =
    let d = c.args.delimiter in
    let p = c.look.self in
    let m = c.fill.new.self in
    let q = c.leave_last-found.new.self in
    let stop = c.first_stop-stop.result in
    let left = g.F.Files.left c.look.files in
    let after = g.F.Files.left c.fill.new.files in
    let high : p.filled ≤ length p.buffer.items = omega (arith, p.buffer.ok.0, p.range.1) in
    let is : IsStop d (take p.filled p.buffer.items) p.at stop.place stop.is_open = rw c.deref.ensures.value at c.first_stop-stop.ensures.stop in
    let ran = stop-runs d FieldStart p.buffer.items p.at stop.place p.filled is.state p.range.0 high c.if-stop-self.false is.stops in
    let e = c.in_ok-fill.ensures in
    let same : carried_in m ≡ carried_in p = e.kept c.if-branch-eq0.true in
    let size = length-range p.buffer.items p.at p.filled p.range.0 high in
    let some : 0 < length (carried_in p) = omega (arith, size, e.count, c.if-branch-eq0.true, c.leave_last-found.ensures.long, c.if-found-2.true) in
    let most : length (carried_in p) ≤ record_limit = omega (arith, size, c.if-self-gt-RECORD_LIMIT.false) in
    let part : slice_range (take p.filled p.buffer.items) p.at stop.place ≡ carried_in p =
    ap (slice_range (take p.filled p.buffer.items) p.at) (stop-end p.buffer.items p.at stop.place p.filled high c.if-stop-self.false is.stops) ∙ range-front p.buffer.items p.at p.filled p.filled p.range.0 (omega arith) in
    let plain : stop.quotes ≡ false → list_any is_special (slice_range (take p.filled p.buffer.items) p.at stop.place) ≡ false = rw c.deref.ensures.value at c.first_stop-stop.ensures.plain in
    rw (c.leave_last-found.ensures.bytes, c.leave_last-found.ensures.quotes, c.leave_last-found.ensures.is_open, same)
    (stop-found d (carried_in p) is.state stop.quotes stop.is_open ran some most is.quoted (λ n. ap (list_any is_special) (sym part) ∙ plain n))

pub returns-then-branch-eq0-clause-ended : goal.returns-then-branch-eq0-clause-ended
returns-then-branch-eq0-clause-ended g c none =
    let d = c.args.delimiter in
    let p = c.look.self in
    let m = c.fill.new.self in
    let q = c.leave_last-found.new.self in
    let stop = c.first_stop-stop.result in
    let left = g.F.Files.left c.look.files in
    let after = g.F.Files.left c.fill.new.files in
    let high : p.filled ≤ length p.buffer.items = omega (arith, p.buffer.ok.0, p.range.1) in
    let is : IsStop d (take p.filled p.buffer.items) p.at stop.place stop.is_open = rw c.deref.ensures.value at c.first_stop-stop.ensures.stop in
    let ran = stop-runs d FieldStart p.buffer.items p.at stop.place p.filled is.state p.range.0 high c.if-stop-self.false is.stops in
    let e = c.in_ok-fill.ensures in
    let same : carried_in m ≡ carried_in p = e.kept c.if-branch-eq0.true in
    let more : 0 < m.allowed = omega (arith, e.allowed, c.if-branch-eq0.true, c.if-self-eq0.false) in
    let some_before : 0 < p.allowed = omega (arith, c.if-self-eq0.false) in
    let end = e.ended c.if-branch-eq0.true some_before in
    let size = length-range p.buffer.items p.at p.filled p.range.0 high in
    let begun = e.begun ∙ c.look.invariant.begun in
    let records = then-same (told_records d (position_of c.args.self.now) (g.F.Files.left c.args.files.now)) (told_records d (position_of p) left) (told_records d (position_of m) after) c.look.invariant.records
    (same-records d (position_of p) (position_of m) left after e.text) in
    let empty : carried_in m ≡ [] = same ∙ range-empty p.buffer.items p.at p.filled (omega (arith, e.count, c.if-branch-eq0.true, c.leave_last-found.ensures.long, c.if-found-2.false)) in
    then-holds (λ all. all ≡ no_records false) (told_records d (position_of c.args.self.now) (g.F.Files.left c.args.files.now)) (told_records d (position_of m) after) records
    (none-ahead d (position_of m) after begun empty more end)
