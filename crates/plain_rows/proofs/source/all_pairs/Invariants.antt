use Rattle.std.proofs.Common.{◌≡◌, take}
use Rattle.sql_meaning.specs.From.{pairs}
use Rattle.plain_rows.proofs.source.all_pairs.Given as goal

abbrev pub invariant-loop-right : goal.invariant-loop-right
invariant-loop-right l = l.all.items ≡ pairs l.left (take l.right-index l.rows)
