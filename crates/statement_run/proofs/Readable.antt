-- The sets of a table as a scan reads them.
use Rattle.std.proofs.Common.{◌≡◌, ℕ, List, [], ◌∷◌, ◌++◌, Option, Some, None, refl, ap, sym, ◌∙◌}
use Rattle.std.specs.Prelude.{All, IsSomeAnd}
use Rattle.std.specs.Option.{option_map}
use Rattle.ooc_types.specs.declared.schema.SqlType.{SqlType}
use Rattle.ooc_types.specs.declared.value.Value.{Value}
use Rattle.page_body.specs.View.{PoolTerms, PoolView}
use Rattle.row_sets.specs.Sets.{set_rows}
use Rattle.row_sets.specs.declared.row_set.RowSet.{RowSet}
use Rattle.script_says.specs.Catalog.{Catalog, Table, rows_in, schemas_of, table_at, tables_of}
use Rattle.sql_scope.specs.Scopes.{columns_of}
use Rattle.well_formed.specs.Given.{kinds_of_columns}
use Rattle.paged_catalog.specs.Meaning.{sets_rows, values_of}
use Rattle.paged_catalog.specs.Stands.{AreSetsOf}
use Rattle.table_scan.specs.TableRows.{IsReadable, rows_of_sets}
use Rattle.statement_run.proofs.Tables.{columns_at, columns_there}

module _ {Page Pin : Type 0} (t : PoolTerms Page Pin) where
  same_rows : (sets : List (RowSet Page)) → rows_of_sets t sets ≡ sets_rows t sets
  same_rows [] = refl
  same_rows (set ∷ sets) = ap (λ (rows : List (List Value)). values_of (set_rows t set) ++ rows) (same_rows sets)

  rows_of : (o : Option Table) (a : PoolView Page Pin) (sets : List (RowSet Page)) → IsSomeAnd o (λ table. AreSetsOf t a table sets) → rows_in o ≡ rows_of_sets t sets
  rows_of None a sets are = absurd are
  rows_of (Some table) a sets are = sym are.rows ∙ sym (same_rows sets)

  readable : (o : Option Table) (a : PoolView Page Pin) (kinds : List SqlType) (sets : List (RowSet Page)) → option_map kinds_of_columns (columns_at o) ≡ Some kinds
      → IsSomeAnd o (λ table. AreSetsOf t a table sets) → All (IsReadable t a kinds) sets
  readable None a kinds sets has are = absurd are
  readable (Some table) a kinds sets has are =
      let same : kinds_of_columns table.columns ≡ kinds = cc in
      λ i d within. let r = are.each i d within in record { formed = r.formed; here = r.here; alone = r.alone; kinds = r.kinds ∙ same }

some_kinds : (o : Option Table) (kinds : List SqlType) → option_map kinds_of_columns (columns_at o) ≡ Some kinds → o ≡ None → ⊥
some_kinds None kinds has none = cc
some_kinds (Some table) kinds has none = cc

-- the table that is scanned has columns of these types
module _ (catalog : Catalog) (seen name : List ℕ) (kinds : List SqlType) (same : seen ≡ name) (has : option_map kinds_of_columns (columns_of (schemas_of catalog) name) ≡ Some kinds) where
  kinds_seen : option_map kinds_of_columns (columns_at (table_at catalog seen)) ≡ Some kinds
  kinds_seen = ap (option_map kinds_of_columns) (sym (columns_there catalog seen)) ∙ ap (λ (n : List ℕ). option_map kinds_of_columns (columns_of (schemas_of catalog) n)) same ∙ has

  -- so it is there
  pub table_there : table_at catalog seen ≡ None → ⊥
  table_there none = some_kinds (table_at catalog seen) kinds kinds_seen none

  module _ {Page Pin : Type 0} (t : PoolTerms Page Pin) (a : PoolView Page Pin) (sets : List (RowSet Page)) (are : IsSomeAnd (table_at catalog seen) (λ table. AreSetsOf t a table sets)) where
    pub sets_readable : All (IsReadable t a kinds) sets
    sets_readable = readable t (table_at catalog seen) a kinds sets kinds_seen are

    pub rows_seen : tables_of catalog name ≡ rows_of_sets t sets
    rows_seen = ap (λ (n : List ℕ). rows_in (table_at catalog n)) (sym same) ∙ rows_of t (table_at catalog seen) a sets are
