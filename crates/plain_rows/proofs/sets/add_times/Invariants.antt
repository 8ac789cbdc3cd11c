use Rattle.std.proofs.Common.{◌≡◌, ◌++◌, replicate}
use Rattle.plain_rows.proofs.sets.add_times.Given as goal

abbrev pub invariant-loop-done : goal.invariant-loop-done
invariant-loop-done l = l.into.items ≡ l.fn.into.items ++ replicate l.done l.row
