use Rattle.std.proofs.Common.{◌≡◌, ◌++◌, take}
use Rattle.plain_rows.proofs.source.add_values.Given as goal

abbrev pub invariant-loop-value : goal.invariant-loop-value
invariant-loop-value l = l.into ≡ l.fn.into ++ take l.value-index l.row
