-- How many pages the rows of tables need.
use Rattle.std.specs.Prelude.{ℕ, ◌+◌, ◌-◌, ◌*◌, ◌/◌, [], ◌∷◌, length}
use Rattle.row_image.specs.Layout.{width_of}
use Rattle.row_sets.specs.SetRows.{cell_kinds}
use Rattle.csv_tables.specs.Stored.{kinds_of}
use Rattle.script_says.specs.Catalog.{Catalog, Table}

-- so many bytes in pages of a length, rounded up
abbrev pub pages_for : ℕ → ℕ → ℕ
pages_for page_bytes bytes = (bytes + (page_bytes - 1)) / page_bytes

-- the rows of a table times the width of a row, in pages
abbrev pub table_need : ℕ → Table → ℕ
table_need page_bytes table = pages_for page_bytes (length table.rows * width_of (cell_kinds (kinds_of table.columns)))

-- over all tables
abbrev pub catalog_need : ℕ → Catalog → ℕ
catalog_need page_bytes [] = 0
catalog_need page_bytes (table ∷ tables) = table_need page_bytes table + catalog_need page_bytes tables
