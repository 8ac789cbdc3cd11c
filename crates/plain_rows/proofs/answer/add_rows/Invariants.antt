use Rattle.std.proofs.Common.{◌≡◌, ◌++◌, take}
use Rattle.plain_rows.proofs.answer.add_rows.Given as goal

abbrev pub invariant-loop-row : goal.invariant-loop-row
invariant-loop-row l = l.into.items ≡ l.fn.into.items ++ take l.row-index l.rows
