use Rattle.std.proofs.Common.{◌≡◌, map, take}
use Rattle.sql_meaning.specs.Statements.{condition_of}
use Rattle.plain_rows.specs.Tests.{condition_in, parts_in, parts_of}
use Rattle.plain_rows.proofs.test.tests_of.Given as goal

abbrev pub invariant-loop-condition : goal.invariant-loop-condition
invariant-loop-condition l = record {
  conditions : map condition_in l.tests.items ≡ map condition_of (take l.condition-index l.conditions);
  parts : map parts_in l.tests.items ≡ map parts_of (take l.condition-index l.conditions);
}
