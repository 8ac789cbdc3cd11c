use Rattle.std.proofs.Common.{◌≡◌, ◌≤◌, ◌+◌, ◌-◌, ◌*◌, true}
use Rattle.csv_records.specs.Ahead.{Same, told_records}
use Rattle.csv_records.specs.Buffer.{position_of}
use Rattle.csv_records.proofs.buffer.Buffer.next_record.Given as goal

abbrev pub invariant-look : goal.invariant-look
invariant-look g l = record {
  opened : g.F.Files.is_open l.files ≡ true;
  holds : g.F.Files.holds l.files ≡ g.F.Files.holds l.fn.files;
  begun : l.self.begun ≡ true;
  records : Same (told_records l.delimiter (position_of l.fn.self) (g.F.Files.left l.fn.files)) (told_records l.delimiter (position_of l.self) (g.F.Files.left l.files));
  total : l.self.allowed + (l.self.filled - l.self.at) ≤ l.fn.self.allowed + (l.fn.self.filled - l.fn.self.at);
  later : g.F.Files.faults l.fn.files ≤ g.F.Files.faults l.files;
}

abbrev pub decreases-look : goal.decreases-look
decreases-look g l = 2 * l.self.allowed + (l.self.filled - l.self.at)
