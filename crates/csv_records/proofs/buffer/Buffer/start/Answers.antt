use Rattle.std.proofs.Common.{◌≤◌, ◌⊎◌, length, arith, ◌∙◌, inl, inr}
use Rattle.csv_records.specs.Ahead.{told_text}
use Rattle.csv_records.specs.Buffer.{carried_in, position_of, IsLast}
use Rattle.csv_records.proofs.Ranges.{length-range}
use Rattle.csv_records.proofs.Marks.{started}
use Rattle.csv_records.proofs.buffer.Buffer.start.Goals as goal

pub returns-clause-text : goal.returns-clause-text
returns-clause-text g c =
    let s = c.args.self.now in
    let p = c.fill.new.self in
    let q = c.skip_mark.new.self in
    let e = c.in_ok-fill.ensures in
    let left = g.F.Files.left c.fill.new.files in
    let high : p.filled ≤ length p.buffer.items = omega (arith, p.buffer.ok.0, p.range.1) in
    let ready : IsLast p.allowed left ⊎ (3 ≤ length (carried_in p)) = elim e.ready [
      | inl last ↦ inl last
      | inr room ↦ inr (omega (arith, length-range p.buffer.items p.at p.filled p.range.0 high))
    ] in
    started (told_text (position_of s) (g.F.Files.left c.args.files.now)) p.begun q.begun (carried_in p) (carried_in q) p.allowed q.allowed left
    (e.begun ∙ c.if-self.false) c.skip_mark.ensures.begun c.skip_mark.ensures.allowed c.skip_mark.ensures.mark ready e.text
