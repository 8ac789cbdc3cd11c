use Rattle.std.proofs.Common.{◌≡◌, ◌++◌, map, take}
use Rattle.std.specs.Prelude.{flat_map}
use Rattle.sql_meaning.specs.Groups.{group_faults, rows_of}
use Rattle.sql_meaning.specs.Statements.{aggregation_of}
use Rattle.plain_groups.specs.Keys.{one_in}
use Rattle.plain_groups.proofs.grouping.note_keys.Given as goal

abbrev pub invariant-loop-key : goal.invariant-loop-key
invariant-loop-key l = l.into.items ≡ l.fn.into.items ++ flat_map (λ key. group_faults (map aggregation_of l.aggregates) (rows_of key (map one_in l.keyed))) (take l.key-index l.keys)
