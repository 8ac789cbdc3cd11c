use Rattle.std.proofs.Common.{inl, inr, arith}
use Rattle.csv_records.proofs.Filling.{last-allowed, last-left}
use Rattle.csv_records.proofs.buffer.Buffer.fill.Goals as goal

pub returns-then-self-eq0-clause-ready : goal.returns-then-self-eq0-clause-ready
returns-then-self-eq0-clause-ready g c = inl (last-allowed _ (g.F.Files.left c.loop-self.files) c.if-self-eq0.true)

pub returns-then-branch-eq0-clause-ready : goal.returns-then-branch-eq0-clause-ready
returns-then-branch-eq0-clause-ready g c = inl (last-left _ (g.F.Files.left c.read_more.new.files) (c.in_ok-read_more.ensures.ended c.if-branch-eq0.true))

pub returns-clause-ready : goal.returns-clause-ready
returns-clause-ready g c = inr (omega arith)
