use Rattle.std.proofs.Common.{length}
use Rattle.row_sets_runs.proofs.forms.+count_texts.Given as goal

abbrev pub decreases-count_texts : goal.decreases-count_texts
decreases-count_texts l = length l.kinds.now
