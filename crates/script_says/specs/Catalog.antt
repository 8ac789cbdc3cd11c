-- The tables that are there, in the order in which they were created. Their names are in small letters.
use Rattle.std.specs.Prelude.{ℕ, ◌^◌, ◌-◌, List, [], ◌∷◌, ◌++◌, map, min, length, Option, Some, None, if◌then◌else◌}
use Rattle.std.specs.Str.{bytes_eq}
use Rattle.ooc_types.specs.declared.schema.Column.{Column}
use Rattle.ooc_types.specs.declared.value.Value.{Value}
use Rattle.sql_scope.specs.declared.scope.TableColumns.{TableColumns}
use Rattle.sql_meaning.specs.Statements.{Tables}
use Rattle.plan_tree.specs.Planned.{Counts}

-- a table: its name, its columns, and its rows in the order in which they were loaded
pub record Table : Type 0 where
  pub name : List ℕ
  pub columns : List Column
  pub rows : List (List Value)

abbrev pub Catalog : Type 0
Catalog = List Table

abbrev pub no_tables : Catalog
no_tables = []

-- the first table that has the name
abbrev pub table_at : Catalog → List ℕ → Option Table
table_at [] name = None
table_at (table ∷ tables) name = if bytes_eq table.name name then Some table else table_at tables name

-- a table that has no rows yet, behind the others
abbrev pub with_table : Catalog → List ℕ → List Column → Catalog
with_table catalog name columns = catalog ++ record { name = name; columns = columns; rows = [] } ∷ []

-- the others, where a table has the name
abbrev pub without_table : Catalog → List ℕ → Catalog
without_table [] name = []
without_table (table ∷ tables) name = if bytes_eq table.name name then tables else table ∷ without_table tables name

-- more rows at a table's end
abbrev pub more_rows : Table → List (List Value) → Table
more_rows table rows = record { name = table.name; columns = table.columns; rows = table.rows ++ rows }

abbrev pub with_rows : Catalog → List ℕ → List (List Value) → Catalog
with_rows [] name rows = []
with_rows (table ∷ tables) name rows = if bytes_eq table.name name then more_rows table rows ∷ tables else table ∷ with_rows tables name rows

-- ---- what binding, meaning and planning see of it

abbrev pub columns_of : Table → TableColumns
columns_of table = record { name = table.name; columns = table.columns }

abbrev pub schemas_of : Catalog → List TableColumns
schemas_of catalog = map columns_of catalog

abbrev pub rows_in : Option Table → List (List Value)
rows_in None = []
rows_in (Some table) = table.rows

-- the rows of each table, by its name
abbrev pub tables_of : Catalog → Tables
tables_of catalog name = rows_in (table_at catalog name)

-- a plan counts no further
abbrev pub most_counted : ℕ
most_counted = 2 ^ 64 - 1

abbrev pub counts_of : Catalog → Counts
counts_of catalog name = min (length (tables_of catalog name)) most_counted
