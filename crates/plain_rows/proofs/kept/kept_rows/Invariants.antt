use Rattle.std.proofs.Common.{◌≡◌, map, take}
use Rattle.sql_meaning.specs.Found.{collected}
use Rattle.plain_rows.specs.Answers.{found_in}
use Rattle.plain_rows.specs.Tests.{condition_in, kept_of}
use Rattle.plain_rows.proofs.kept.kept_rows.Given as goal

abbrev pub invariant-loop-row : goal.invariant-loop-row
invariant-loop-row l = found_in l.answer ≡ collected (kept_of (map condition_in l.tests)) (take l.row-index l.rows)
