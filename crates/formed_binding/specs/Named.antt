-- Rows with the names and types of their columns, as they are bound behind FROM to HAVING or over a set operation.
use Rattle.std.specs.Prelude.{◌≡◌, ℕ, ◌≤◌, length, Ok}
use Rattle.std.specs.List.{AllByRecursion}
use Rattle.sql_expr.specs.Operations.{IsProper}
use Rattle.bound_tree.specs.declared.select.BoundSelect.{BoundSelect}
use Rattle.sql_clauses.specs.declared.cores.NamedRows.{NamedRows}
use Rattle.sql_clauses.specs.declared.rows.Unordered.{Unordered}
use Rattle.sql_clauses.specs.Rows.{finished_rows, output_columns, plain_outputs}
use Rattle.well_formed.specs.Given.{Schemas, kinds_of_columns, kinds_of_rows, kinds_of_select}
use Rattle.well_formed.specs.Rows.{AreWellFormedRows, IsWellFormedSelect}

-- The rows are well-formed, and the columns have their types, which may be written.
pub record AreNamed (limit : ℕ) (schemas : Schemas) (named : NamedRows) : Type 0 where
  pub rows : AreWellFormedRows limit schemas named.rows
  pub kinds : kinds_of_columns named.columns ≡ kinds_of_rows named.rows
  pub proper : AllByRecursion IsProper (kinds_of_columns named.columns)

-- What is finished of them is named so, and no more outputs are plain columns than there are outputs.
pub record AreUnordered (limit : ℕ) (schemas : Schemas) (rows : Unordered) : Type 0 where
  pub finished : (named : NamedRows) → finished_rows rows ≡ Ok named → AreNamed limit schemas named
  pub plain : length (plain_outputs rows) ≤ length (output_columns rows)
  pub proper : AllByRecursion IsProper (kinds_of_columns (output_columns rows))

-- A well-formed SELECT whose columns have types that may be written.
pub record IsSelected (limit : ℕ) (schemas : Schemas) (select : BoundSelect) : Type 0 where
  pub formed : IsWellFormedSelect limit schemas select
  pub proper : AllByRecursion IsProper (kinds_of_select select)
