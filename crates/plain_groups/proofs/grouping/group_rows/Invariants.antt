use Rattle.std.proofs.Common.{◌≡◌, ◌∷◌, [], map, take}
use Rattle.std.specs.Prelude.{flat_map}
use Rattle.sql_meaning.specs.Groups.{group_row, rows_of}
use Rattle.sql_meaning.specs.Statements.{aggregation_of}
use Rattle.plain_groups.specs.Keys.{one_in}
use Rattle.plain_groups.proofs.grouping.group_rows.Given as goal

abbrev pub invariant-loop-key : goal.invariant-loop-key
invariant-loop-key l = l.rows.items ≡ flat_map (λ key. group_row (map aggregation_of l.aggregates) key (rows_of key (map one_in l.keyed)) ∷ []) (take l.key-index l.keys)
