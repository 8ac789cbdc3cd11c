use Rattle.std.proofs.Common.{◌≡◌, take}
use Rattle.sql_meaning.specs.Found.{collected}
use Rattle.sql_meaning.specs.From.{met}
use Rattle.plain_rows.specs.Answers.{found_in}
use Rattle.plain_rows.specs.Froms.{source_in}
use Rattle.plain_rows.proofs.source.join.Given as goal

abbrev pub invariant-loop-left : goal.invariant-loop-left
invariant-loop-left l = found_in l.answer ≡ collected (met (source_in l.source)) (take l.left-index l.lefts)
