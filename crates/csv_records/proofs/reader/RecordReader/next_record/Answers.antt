use Rattle.std.proofs.Common.{◌≡◌, ◌<◌, ◌+◌, ◌-◌, length, refl, sym, ap, arith}
use Rattle.csv_records.specs.Reader.{Reader}
use Rattle.csv_records.specs.Buffer.{carried_in}
use Rattle.csv_records.proofs.Ranges.{length-range}
use Rattle.csv_records.proofs.Readers.{found-none}
use Rattle.csv_records.proofs.reader.RecordReader.next_record.Goals as goal

pub invariant_of-self : goal.invariant_of-self
invariant_of-self g c = found-none _ c.self.invariant.marks refl refl refl

pub invariant_of-self-in-None : goal.invariant_of-self-in-None
invariant_of-self-in-None g c = found-none _ c.self.invariant.marks refl refl refl

pub returns-in-Some-clause-less : goal.returns-in-Some-clause-less
returns-in-Some-clause-less g c same =
    let p = c.self.inside.buffer in
    let q = c.next_record.new.self in
    let before = length-range p.buffer.items p.at p.filled p.range.0 (omega (arith, p.buffer.ok.0, p.range.1)) in
    let after = length-range q.buffer.items q.at q.filled q.range.0 (omega (arith, q.buffer.ok.0, q.range.1)) in
    let carried : length c.args.self.now.position.carried ≡ length (carried_in p) = ap (λ (r : Reader). length r.position.carried) (sym c.self.view_is) in
    let allowed : c.args.self.now.position.allowed ≡ p.allowed = ap (λ (r : Reader). r.position.allowed) (sym c.self.view_is) in
    let less : q.allowed + (q.filled - q.at) < p.allowed + (p.filled - p.at) = rw c.in-Some.is at c.in_ok-found.ensures.less in
    omega (arith, before, after, carried, allowed, less)
