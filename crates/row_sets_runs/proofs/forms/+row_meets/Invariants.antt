use Rattle.std.proofs.Common.{length}
use Rattle.row_sets_runs.proofs.forms.+row_meets.Given as goal

abbrev pub decreases-row_meets : goal.decreases-row_meets
decreases-row_meets l = length l.kinds.now
