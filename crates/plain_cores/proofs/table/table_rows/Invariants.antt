use Rattle.std.proofs.Common.{◌≡◌, drop}
use Rattle.plain_cores.specs.Named.{tables_in}
use Rattle.plain_cores.proofs.table.table_rows.Given as goal

abbrev pub invariant-loop-table : goal.invariant-loop-table
invariant-loop-table l = tables_in (drop l.table-index l.tables) l.name ≡ tables_in l.tables l.name
