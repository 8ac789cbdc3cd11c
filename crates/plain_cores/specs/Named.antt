-- Tables by their names.
use Rattle.std.specs.Prelude.{if◌then◌else◌, List, [], ◌∷◌}
use Rattle.std.specs.Str.{bytes_eq}
use Rattle.sql_meaning.specs.Statements.{Tables}
use Rattle.plain_cores.specs.declared.table.Table.{Table}

-- the rows of the first table of a name, and none where there is none
abbrev pub tables_in : List Table → Tables
tables_in [] name = []
tables_in (table ∷ tables) name = if bytes_eq table.name name then table.rows.items else tables_in tables name
