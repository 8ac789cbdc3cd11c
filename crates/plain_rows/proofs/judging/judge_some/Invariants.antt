use Rattle.std.proofs.Common.{◌≡◌, map, drop}
use Rattle.std.specs.Prelude.{filter}
use Rattle.sql_meaning.specs.Judged.{judged}
use Rattle.plain_rows.specs.Tests.{condition_in, acts_here}
use Rattle.plain_rows.proofs.judging.judge_some.Given as goal

abbrev pub invariant-loop-one : goal.invariant-loop-one
invariant-loop-one l = judged (filter (acts_here l.plain) (map condition_in (drop l.one-index l.tests))) l.row ≡ judged (filter (acts_here l.plain) (map condition_in l.tests)) l.row
