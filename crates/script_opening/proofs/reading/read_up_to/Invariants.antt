use Rattle.std.proofs.Common.{◌≡◌, ◌<◌, ◌≤◌, ◌-◌, ◌+◌, true, vec_len}
use Rattle.std.specs.Io.KnownBytes.{Consumes}
use Rattle.script_opening.proofs.reading.read_up_to.Given as goal

abbrev pub invariant-loop-files : goal.invariant-loop-files
invariant-loop-files g l = record {
  some : 0 < vec_len l.piece;
  opened : g.F.Files.is_open l.files ≡ true;
  holds : g.F.Files.holds l.files ≡ g.F.Files.holds l.fn.files;
  read : Consumes (g.F.Files.left l.fn.files) (g.F.Files.left l.files) l.text.items;
  later : g.F.Files.faults l.fn.files ≤ g.F.Files.faults l.files;
}

abbrev pub decreases-loop-files : goal.decreases-loop-files
decreases-loop-files g l = l.most + 1 - vec_len l.text
