use Rattle.std.proofs.Common.{◌≡◌, map, drop}
use Rattle.sql_meaning.specs.Found.{and_then}
use Rattle.sql_meaning.specs.From.{from_behind, from_rows}
use Rattle.plain_rows.specs.Answers.{found_in}
use Rattle.plain_rows.specs.Froms.{AreBehind, source_in}
use Rattle.plain_rows.proofs.source.from_rows.Given as goal

abbrev pub invariant-loop-source : goal.invariant-loop-source
invariant-loop-source l = record {
  is : and_then (found_in l.answer) (from_behind (map source_in (drop l.source-index l.sources))) ≡ from_rows (map source_in l.sources);
  fits : AreBehind l.answer.rows.items (drop l.source-index l.sources);
}
