use Rattle.std.proofs.Common.{◌≡◌, ◌≤◌, ◌<◌, ◌+◌, true, [], ℕ, length, take, refl, sym, subst, ◌∙◌, arith}
use Rattle.std.specs.Prelude.{slice_range}
use Rattle.csv_records.specs.Stops.{StopsAt}
use Rattle.csv_records.specs.Buffer.{carried_in, position_of}
use Rattle.csv_records.specs.declared.mark.Mark.TheVariants.{FieldStart}
use Rattle.csv_records.proofs.Finding.{stop-ends, stop-runs}
use Rattle.csv_records.proofs.LongRecords.{goes-on, goes-on-more, goes-over, goes-to-end, goes-to-stop, stays-within, GoesOn}
use Rattle.csv_records.specs.Ahead.{told_text}
use Rattle.csv_records.proofs.Cutting.{state-none}
use Rattle.csv_records.proofs.buffer.Buffer.long_fault.Goals as goal

pub loop-self-init : goal.loop-self-init
loop-self-init g c =
    let p = c.args.self.now in
    let d = c.args.delimiter in
    let stop = c.table_stop-mark.result in
    let high : p.filled ≤ length p.buffer.items = omega (arith, p.buffer.ok.0, p.range.1) in
    let stops : StopsAt d FieldStart (take p.filled p.buffer.items) p.at stop.0 stop.1 = rw c.deref.ensures.value at c.table_stop-mark.ensures in
    let ran = stays-within d p.buffer.items p.at stop.0 p.filled stop.1 p.range.0 high stops c.requires.runs in
    record {
      opened = c.requires.opened;
      holds = refl;
      begun = c.requires.begun;
      runs = goes-on d (position_of p) stop.1 (g.F.Files.left c.args.files.now) c.requires.begun c.requires.long ran;
      later = omega arith;
    }

pub returns-then-count-eq0-clause-record : goal.returns-then-count-eq0-clause-record
returns-then-count-eq0-clause-record g c same =
    let d = c.args.delimiter in
    let s = position_of c.args.self.now in
    let l = c.leave_all.new.self in
    let m = c.fill.new.self in
    let first = g.F.Files.left c.args.files.now in
    let left = g.F.Files.left c.loop-self.files in
    let after = g.F.Files.left c.fill.new.files in
    let e = c.in-Ok.ensures in
    let on : GoesOn d (told_text s first) c.loop-self.mark l.allowed left =
    subst (λ (n : ℕ). GoesOn d (told_text s first) c.loop-self.mark n left) (sym c.leave_all.ensures.allowed) c.loop-self.invariant.runs in
    let begun : l.begun ≡ true = c.leave_all.ensures.begun ∙ c.loop-self.invariant.begun in
    let begun_now : m.begun ≡ true = e.begun ∙ begun in
    let none : carried_in m ≡ [] = e.kept c.if-count-eq0.true ∙ c.leave_all.ensures.carried in
    let before : 0 < l.allowed = omega arith in
    let more : 0 < m.allowed = omega arith in
    goes-to-end d s c.loop-self.mark m.allowed first after
    (goes-on-more d (told_text s first) c.loop-self.mark c.loop-self.mark (position_of l) (position_of m) left after on begun c.leave_all.ensures.carried begun_now e.text (state-none d c.loop-self.mark (carried_in m) none))
    more (e.ended c.if-count-eq0.true before)

pub returns-then-place-self-clause-record : goal.returns-then-place-self-clause-record
returns-then-place-self-clause-record g c same =
    let d = c.args.delimiter in
    let s = position_of c.args.self.now in
    let l = c.leave_all.new.self in
    let m = c.fill.new.self in
    let first = g.F.Files.left c.args.files.now in
    let left = g.F.Files.left c.loop-self.files in
    let after = g.F.Files.left c.fill.new.files in
    let e = c.in-Ok.ensures in
    let on : GoesOn d (told_text s first) c.loop-self.mark l.allowed left =
    subst (λ (n : ℕ). GoesOn d (told_text s first) c.loop-self.mark n left) (sym c.leave_all.ensures.allowed) c.loop-self.invariant.runs in
    let begun : l.begun ≡ true = c.leave_all.ensures.begun ∙ c.loop-self.invariant.begun in
    let begun_now : m.begun ≡ true = e.begun ∙ begun in
    let stop = c.table_stop-place.result in
    let high : m.filled ≤ length m.buffer.items = omega (arith, m.buffer.ok.0, m.range.1) in
    let stops : StopsAt d c.loop-self.mark (take m.filled m.buffer.items) m.at stop.0 stop.1 = rw c.deref-in-loop-self.ensures.value at c.table_stop-place.ensures in
    goes-to-stop d s c.loop-self.mark first left (slice_range m.buffer.items m.at stop.0) (slice_range m.buffer.items (stop.0 + 1) m.filled) (position_of l) (position_of m) on begun c.leave_all.ensures.carried begun_now after e.text
    (stop-ends d c.loop-self.mark m.buffer.items m.at stop.0 m.filled stop.1 high c.if-place-self.true stops)

pub loop-self-preserved : goal.loop-self-preserved
loop-self-preserved g c =
    let d = c.args.delimiter in
    let s = position_of c.args.self.now in
    let l = c.leave_all.new.self in
    let m = c.fill.new.self in
    let first = g.F.Files.left c.args.files.now in
    let left = g.F.Files.left c.loop-self.files in
    let after = g.F.Files.left c.fill.new.files in
    let e = c.in-Ok.ensures in
    let on : GoesOn d (told_text s first) c.loop-self.mark l.allowed left =
    subst (λ (n : ℕ). GoesOn d (told_text s first) c.loop-self.mark n left) (sym c.leave_all.ensures.allowed) c.loop-self.invariant.runs in
    let begun : l.begun ≡ true = c.leave_all.ensures.begun ∙ c.loop-self.invariant.begun in
    let begun_now : m.begun ≡ true = e.begun ∙ begun in
    let stop = c.table_stop-place.result in
    let high : m.filled ≤ length m.buffer.items = omega (arith, m.buffer.ok.0, m.range.1) in
    let stops : StopsAt d c.loop-self.mark (take m.filled m.buffer.items) m.at stop.0 stop.1 = rw c.deref-in-loop-self.ensures.value at c.table_stop-place.ensures in
    record {
      opened = e.opened;
      holds = e.holds ∙ c.loop-self.invariant.holds;
      begun = begun_now;
      runs = goes-on-more d (told_text s first) c.loop-self.mark stop.1 (position_of l) (position_of m) left after on begun c.leave_all.ensures.carried begun_now e.text
          (stop-runs d c.loop-self.mark m.buffer.items m.at stop.0 m.filled stop.1 m.range.0 high c.if-place-self.false stops);
      later = omega (arith, e.later, c.loop-self.invariant.later);
    }

pub returns-clause-file : goal.returns-clause-file
returns-clause-file g c e = goes-over c.args.delimiter (position_of c.args.self.now) c.loop-self.mark c.loop-self.self.allowed (g.F.Files.left c.args.files.now) (g.F.Files.left c.loop-self.files) c.loop-self.invariant.runs (omega arith)
