use Rattle.std.proofs.Common.{◌≡◌, map, drop}
use Rattle.sql_meaning.specs.Groups.{values}
use Rattle.sql_meaning.specs.Statements.{row_value_of}
use Rattle.plain_rows.specs.Outcomes.{put_before}
use Rattle.table_scan.proofs.items.fill_values.Given as goal

abbrev pub invariant-loop-item : goal.invariant-loop-item
invariant-loop-item l = values (map row_value_of l.items) l.row ≡ put_before l.into (values (map row_value_of (drop l.item-index l.items)) l.row)
