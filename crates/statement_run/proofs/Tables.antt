-- What binding sees of the tables of a catalog.
use Rattle.std.proofs.Common.{◌≡◌, ℕ, Bool, true, false, true≢false, cond, List, [], ◌∷◌, Option, Some, None, refl, sym, ◌∙◌, subst, arith}
use Rattle.std.specs.Prelude.{◌&&◌, nat_le, IsSome, IsNone}
use Rattle.std.specs.List.{AllByRecursion}
use Rattle.std.specs.Option.{option_map}
use Rattle.std.specs.Str.{bytes_eq}
use Rattle.std.proofs.lemmas.Bool.{leb-true}
use Rattle.ooc_types.specs.declared.schema.Column.{Column}
use Rattle.ooc_types.specs.declared.schema.SqlType.{SqlType}
use Rattle.ooc_types.specs.declared.schema.SqlType.TheVariants.{Boolean, Integer, BigInt, HugeInt, Decimal, Date, Varchar}
use Rattle.sql_expr.specs.Operations.{IsProper}
use Rattle.csv_load.specs.Values.{are_typed, is_column_type}
use Rattle.csv_records.specs.Table.{IsDelimiter}
use Rattle.sql_scope.specs.declared.scope.TableColumns.{TableColumns}
use Rattle.sql_scope.specs.Scopes.{columns_of}
use Rattle.page_body.specs.View.{PoolTerms}
use Rattle.formed_binding.specs.Tables.{AreProper}
use Rattle.well_formed.specs.Statements.{IsDelimiter as Separates}
use Rattle.script_says.specs.Catalog.{Catalog, Table, schemas_of, table_at}
use Rattle.paged_catalog.specs.declared.catalog.TableRows.{TableRows}
use Rattle.paged_catalog.specs.Meaning.{tables_with}
use Rattle.paged_catalog.specs.Stands.{AllTables}

-- ---- the types of columns

both : (a b : Bool) → (a && b) ≡ true → (a ≡ true) × (b ≡ true)
both true b e = (refl, e)
both false b e = absurd (true≢false (sym e))

proper_of : (kind : SqlType) → is_column_type kind ≡ true → IsProper kind
proper_of Boolean is = tt
proper_of Integer is = tt
proper_of BigInt is = tt
proper_of HugeInt is = tt
proper_of (Decimal width scale) is =
    let a = both (nat_le 1 width) (nat_le width 38 && nat_le scale width) is in
    let b = both (nat_le width 38) (nat_le scale width) a.1 in
    (leb-true 1 width a.0, leb-true width 38 b.0, leb-true scale width b.1)
proper_of Date is = tt
proper_of Varchar is = tt

proper_columns : (columns : List Column) → are_typed columns ≡ true → AreProper columns
proper_columns [] are = tt
proper_columns (column ∷ columns) are =
    let parts = both (is_column_type column.kind) (are_typed columns) are in
    (proper_of column.kind parts.0, proper_columns columns parts.1)

column_type_of : (kind : SqlType) → IsProper kind → is_column_type kind ≡ true
column_type_of Boolean is = refl
column_type_of Integer is = refl
column_type_of BigInt is = refl
column_type_of HugeInt is = refl
column_type_of (Decimal width scale) is = let low = is.0 in let high = is.1 in let behind = is.2 in grind arith
column_type_of Date is = refl
column_type_of Varchar is = refl

pub typed_columns : (columns : List Column) → AreProper columns → are_typed columns ≡ true
typed_columns [] are = refl
typed_columns (column ∷ columns) are =
    subst (λ (b : Bool). (b && are_typed columns) ≡ true) (sym (column_type_of column.kind are.0)) (typed_columns columns are.1)

-- the tables of a catalog that stands
pub tables_proper : {Page Pin : Type 0} (t : PoolTerms Page Pin) (page_bytes : ℕ) (tables : List TableColumns) (rows : List (TableRows Page)) → AllTables t page_bytes tables rows
    → AllByRecursion (λ (table : TableColumns). AreProper table.columns) (schemas_of (tables_with t tables rows))
tables_proper t page_bytes [] [] all = tt
tables_proper t page_bytes [] (first ∷ rows) all = absurd all
tables_proper t page_bytes (table ∷ tables) [] all = absurd all
tables_proper t page_bytes (table ∷ tables) (first ∷ rows) all = (proper_columns table.columns all.0.columns.typed, tables_proper t page_bytes tables rows all.1)

-- ---- the columns of a table by its name

abbrev pub columns_at : Option Table → Option (List Column)
columns_at o = option_map (λ (table : Table). table.columns) o

pub columns_there : (catalog : Catalog) (name : List ℕ) → columns_of (schemas_of catalog) name ≡ columns_at (table_at catalog name)
columns_there [] name = refl
columns_there (table ∷ tables) name = by (bytes_eq table.name name) (columns_there tables name)
  where
    by : (b : Bool) → columns_of (schemas_of tables) name ≡ columns_at (table_at tables name)
        → cond b (Some table.columns) (columns_of (schemas_of tables) name) ≡ columns_at (cond b (Some table) (table_at tables name))
    by true later = refl
    by false later = later

none_at : (o : Option Table) → columns_at o ≡ None → IsNone o
none_at None is = refl
none_at (Some table) is = cc

some_at : (o : Option Table) → (columns_at o ≡ None → ⊥) → IsSome o
some_at None is = absurd (is refl)
some_at (Some table) is = refl

-- a name is new, or that of a table
pub name_free : (catalog : Catalog) (name : List ℕ) → columns_of (schemas_of catalog) name ≡ None → IsNone (table_at catalog name)
name_free catalog name is = none_at (table_at catalog name) (sym (columns_there catalog name) ∙ is)

pub name_there : (catalog : Catalog) (name : List ℕ) → (columns_of (schemas_of catalog) name ≡ None → ⊥) → IsSome (table_at catalog name)
name_there catalog name is = some_at (table_at catalog name) (λ none. is (columns_there catalog name ∙ none))

pub separates : (byte : ℕ) → Separates byte → IsDelimiter byte
separates byte s = record { ascii = s.ascii; quote = s.no_quote; feed = s.no_feed; return = s.no_return }
