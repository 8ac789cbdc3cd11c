use Rattle.std.proofs.Common.{◌≤◌, ◌-◌, vec_len}
use Rattle.csv_load.proofs.store.fit_values.Given as goal

abbrev pub invariant-loop-values : goal.invariant-loop-values
invariant-loop-values l = vec_len l.values ≤ l.count

abbrev pub decreases-loop-values : goal.decreases-loop-values
decreases-loop-values l = l.count - vec_len l.values
