use Rattle.std.proofs.Common.{◌≡◌, ◌≤◌, true}
use Rattle.csv_records.specs.Ahead.{told_text}
use Rattle.csv_records.specs.Buffer.{position_of}
use Rattle.csv_records.proofs.LongRecords.{GoesOn}
use Rattle.csv_records.proofs.buffer.Buffer.long_fault.Given as goal

abbrev pub invariant-loop-self : goal.invariant-loop-self
invariant-loop-self g l = record {
  opened : g.F.Files.is_open l.files ≡ true;
  holds : g.F.Files.holds l.files ≡ g.F.Files.holds l.fn.files;
  begun : l.self.begun ≡ true;
  runs : GoesOn l.delimiter (told_text (position_of l.fn.self) (g.F.Files.left l.fn.files)) l.mark l.self.allowed (g.F.Files.left l.files);
  later : g.F.Files.faults l.fn.files ≤ g.F.Files.faults l.files;
}

abbrev pub decreases-loop-self : goal.decreases-loop-self
decreases-loop-self g l = l.self.allowed
