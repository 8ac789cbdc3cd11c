use Rattle.std.proofs.Common.{length}
use Rattle.row_sets.proofs.texts.+long_in.Given as goal

abbrev pub decreases-long_in : goal.decreases-long_in
decreases-long_in l = length l.row.now
