use Rattle.std.proofs.Common.{◌≡◌, ◌≤◌, ◌<◌, ◌+◌, ◌-◌, true, vec_len}
use Rattle.csv_records.specs.Ahead.{Same, told_text}
use Rattle.csv_records.specs.Buffer.{carried_in, position_of}
use Rattle.csv_records.proofs.buffer.Buffer.fill.Given as goal

abbrev pub invariant-loop-self : goal.invariant-loop-self
invariant-loop-self g l = record {
  opened : g.F.Files.is_open l.files ≡ true;
  holds : g.F.Files.holds l.files ≡ g.F.Files.holds l.fn.files;
  text : Same (told_text (position_of l.fn.self) (g.F.Files.left l.fn.files)) (told_text (position_of l.self) (g.F.Files.left l.files));
  begun : l.self.begun ≡ l.fn.self.begun;
  at : l.self.at ≡ 0;
  low : l.before ≤ l.self.filled;
  size : l.before ≡ l.fn.self.filled - l.fn.self.at;
  room : l.before < vec_len l.self.buffer;
  allowed : l.self.allowed + (l.self.filled - l.before) ≡ l.fn.self.allowed;
  kept : l.self.filled ≡ l.before → carried_in l.self ≡ carried_in l.fn.self;
  later : g.F.Files.faults l.fn.files ≤ g.F.Files.faults l.files;
}

abbrev pub decreases-loop-self : goal.decreases-loop-self
decreases-loop-self g l = vec_len l.self.buffer - l.self.filled
