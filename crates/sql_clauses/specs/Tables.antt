-- CREATE TABLE and DROP TABLE, and the tables that a statement names.
use Rattle.std.specs.Prelude.{ℕ, Bool, false, ◌||◌, not, nat_le, List, [], ◌∷◌, ◌++◌, length, Ok, is_some}
use Rattle.std.specs.Str.{bytes_eq}
use Rattle.ooc_types.specs.declared.schema.SqlType.{SqlType}
use Rattle.ooc_types.specs.declared.schema.Column.{Column}
use Rattle.ooc_types.specs.declared.refusal.RefusalKind.TheVariants.{NoTable, TableExists, DuplicateName, TooManyColumns}
use Rattle.bound_tree.specs.declared.statement.Bound.{Bound}
use Rattle.bound_tree.specs.declared.statement.Bound.TheVariants.{CreateTable, DropTable}
use Rattle.sql_grammar.specs.declared.tree.expr.Span.{Span}
use Rattle.sql_grammar.specs.declared.tree.statement.Column.{Column as WrittenColumn}
use Rattle.sql_scope.specs.Answer.{Answer, unless, each, ◌>>=◌}
use Rattle.sql_scope.specs.Texts.{folded, folded_at}
use Rattle.sql_scope.specs.Scopes.{View, columns_of}
use Rattle.sql_clauses.specs.Names.{name_of}
use Rattle.sql_clauses.specs.Types.{declared_type}

-- how many columns a table may have, and the sources of one FROM together
abbrev pub most_columns : ℕ
most_columns = 64

abbrev pub is_table : View → List ℕ → Bool
is_table view name = is_some (columns_of view.tables name)

abbrev pub known_name : View → ℕ → List ℕ → Answer (List ℕ)
known_name view place name = unless (is_table view name) place NoTable name

-- a table that is there, by its name in small letters
abbrev pub known_table : View → Span → Answer (List ℕ)
known_table view name = known_name view name.start (folded_at view.script name)

abbrev pub new_name : View → ℕ → List ℕ → Answer (List ℕ)
new_name view place name = unless (not (is_table view name)) place TableExists name

-- a table that isn't there yet
abbrev pub new_table : View → Span → Answer (List ℕ)
new_table view name = new_name view name.start (folded_at view.script name)

-- whether a column has this name, which is in small letters
abbrev pub is_called : List ℕ → Column → Bool
is_called name column = bytes_eq (folded column.name) name

abbrev pub has_column : List ℕ → List Column → Bool
has_column name [] = false
has_column name (column ∷ columns) = is_called name column || has_column name columns

abbrev pub a_column : View → WrittenColumn → SqlType → Column
a_column view written kind = record { name = name_of view written.name; kind = kind; nullable = not written.not_null }

-- a column whose name in small letters is this
abbrev pub with_column : ℕ → List ℕ → Column → List Column → Answer (List Column)
with_column place name column columns = unless (not (has_column name columns)) place DuplicateName (columns ++ column ∷ [])

-- a column behind those before it: first its type, and then its name
abbrev pub named_column : View → WrittenColumn → List Column → SqlType → Answer (List Column)
named_column view written columns kind =
    with_column written.name.start (folded_at view.script written.name) (a_column view written kind) columns

abbrev pub column_behind : View → WrittenColumn → List Column → Answer (List Column)
column_behind view written columns = declared_type view written.kind >>= named_column view written columns

abbrev pub table_of : ℕ → List ℕ → List Column → Answer Bound
table_of place name columns = unless (nat_le (length columns) most_columns) place TooManyColumns (CreateTable name columns)

-- The name is new, then column by column, and then there aren't too many.
abbrev pub create_table : View → Span → List WrittenColumn → Answer Bound
create_table view name columns =
    new_table view name >>= (λ table. each (column_behind view) (Ok []) columns >>= table_of name.start table)

abbrev pub dropped : List ℕ → Answer Bound
dropped name = Ok (DropTable name)

abbrev pub drop_table : View → Span → Answer Bound
drop_table view name = known_table view name >>= dropped
