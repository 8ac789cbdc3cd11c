use Rattle.std.proofs.Common.{◌≡◌, map, take}
use Rattle.sql_meaning.specs.Statements.{conjunct_meaning, source_meaning}
use Rattle.plain_rows.specs.Froms.{source_in}
use Rattle.plain_rows.specs.Tests.{parts_in}
use Rattle.plain_cores.specs.Known.{known_parts, meant_in}
use Rattle.plain_cores.specs.Named.{tables_in}
use Rattle.plain_select.specs.Settings.{conjunct_parts, on_parts}
use Rattle.plain_select.proofs.walk.+answer.Given as goal

abbrev pub invariant-answer_sources-loop-source : goal.invariant-answer_sources-loop-source
invariant-answer_sources-loop-source l = record {
  sources : map source_in l.made.items ≡ map (source_meaning (tables_in l.tables)) (take l.source-index l.sources);
  on : map (λ source. map parts_in source.on.items) l.made.items ≡ map on_parts (take l.source-index l.sources);
}

abbrev pub invariant-answer_conjuncts-loop-conjunct : goal.invariant-answer_conjuncts-loop-conjunct
invariant-answer_conjuncts-loop-conjunct l = record {
  meant : map meant_in l.knowns.items ≡ map (conjunct_meaning (tables_in l.tables)) (take l.conjunct-index l.conjuncts);
  parts : map known_parts l.knowns.items ≡ map (conjunct_parts (tables_in l.tables)) (take l.conjunct-index l.conjuncts);
}
