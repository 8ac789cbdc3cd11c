-- The tables of a check.
use Rattle.std.specs.Prelude.{ℕ, ◌≡◌, List, [], map, Result, Ok, Err, ⊤}
use Rattle.sql_scope.specs.declared.scope.TableColumns.{TableColumns}
use Rattle.script_says.specs.Catalog.{Catalog, Table}
use Rattle.script_says.specs.Block.{Block, IsPrinted}
use Rattle.script_says.specs.Outcome.{Outcome, Gives}

-- a table of no rows
abbrev pub empty_table : TableColumns → Table
empty_table columns = record { name = columns.name; columns = columns.columns; rows = [] }

abbrev pub catalog_in : List TableColumns → Catalog
catalog_in tables = map empty_table tables

-- it left these tables and printed this text; or memory ran out
abbrev pub Acts : {E : Type 0} → Outcome → Catalog → Result (List ℕ) E → Type 0
Acts outcome new (Err e) = ⊤
Acts outcome new (Ok text) = (block : Block) × (outcome ≡ Gives new block) × IsPrinted block text
