-- The sources of FROM, once each one's columns are known.
use Rattle.std.specs.Prelude.{ℕ, Bool, false, ◌||◌, ◌==◌, not, nat_le, List, [], ◌∷◌, ◌++◌, map, length, Option, Some, None, Ok, if◌then◌else◌}
use Rattle.std.specs.Str.{bytes_eq}
use Rattle.ooc_types.specs.declared.schema.Column.{Column}
use Rattle.ooc_types.specs.declared.refusal.RefusalKind.TheVariants.{NoTable, DuplicateName, TooManyTables, TooManyColumns}
use Rattle.bound_tree.specs.declared.kinds.JoinKind.{JoinKind}
use Rattle.bound_tree.specs.declared.select.BoundSource.{BoundSource}
use Rattle.bound_tree.specs.declared.select.BoundSelect.{BoundSelect}
use Rattle.bound_tree.specs.declared.select.SourceRows.{SourceRows}
use Rattle.bound_tree.specs.declared.select.SourceRows.TheVariants.{Table, Query}
use Rattle.bound_tree.specs.declared.select.BoundRows.TheViews.{out-BoundSource, out-BoundSelect, roll-BoundSource}
use Rattle.sql_grammar.specs.declared.tree.expr.Span.{Span}
use Rattle.sql_scope.specs.declared.scope.ScopeColumn.{ScopeColumn}
use Rattle.sql_scope.specs.Answer.{Answer, refuse, unless, or_refuse, ◌>>=◌}
use Rattle.sql_scope.specs.Texts.{folded, folded_at}
use Rattle.sql_scope.specs.Scopes.{View, columns_of}
use Rattle.sql_clauses.specs.declared.sources.Sources.{Sources}
use Rattle.sql_clauses.specs.Names.{name_of}
use Rattle.sql_clauses.specs.Sets.{types_of}
use Rattle.sql_clauses.specs.Tables.{most_columns}

-- how many sources one FROM may have
abbrev pub most_sources : ℕ
most_sources = 8

abbrev pub no_sources : Sources
no_sources = record { list = []; columns = []; ninth = None }

-- whether a source has this name, which is in small letters
abbrev pub is_called : List ℕ → BoundSource → Bool
is_called name source = bytes_eq (folded (out-BoundSource source).name) name

abbrev pub has_source : List ℕ → List BoundSource → Bool
has_source name [] = false
has_source name (source ∷ sources) = is_called name source || has_source name sources

-- a column of the source of that name
abbrev pub scope_column : List ℕ → Column → ScopeColumn
scope_column source column = record { source = source; name = folded column.name; declared = column.name; kind = column.kind }

abbrev pub scope_columns : List ℕ → List Column → List ScopeColumn
scope_columns source columns = map (scope_column source) columns

-- the ninth source is noted
abbrev pub ninth_of : ℕ → Sources → Option ℕ
ninth_of place sources = if length sources.list == most_sources then Some place else sources.ninth

-- its ON comes later
abbrev pub a_source : List ℕ → JoinKind → SourceRows → List Column → BoundSource
a_source name join rows columns = roll-BoundSource (record { name = name; rows = rows; kinds = types_of columns; join = join; on = [] })

abbrev pub with_source : ℕ → List ℕ → JoinKind → SourceRows → List Column → Sources → Sources
with_source place name join rows columns sources = record {
  list = sources.list ++ a_source name join rows columns ∷ [];
  columns = sources.columns ++ scope_columns (folded name) columns;
  ninth = ninth_of place sources;
}

-- A source that begins at a place, behind those before it: no earlier one has its name.
abbrev pub source_behind : ℕ → ℕ → List ℕ → JoinKind → SourceRows → List Column → Sources → Answer Sources
source_behind place at name join rows columns sources =
    unless (not (has_source (folded name) sources.list)) at DuplicateName (with_source place name join rows columns sources)

-- a source is called by its alias where it has one
abbrev pub source_name : Span → Option Span → Span
source_name name None = name
source_name name (Some alias) = alias

-- a table: it is there, and then the name that it has here is new
abbrev pub named_table : View → ℕ → List ℕ → ℕ → List ℕ → JoinKind → Sources → Answer Sources
named_table view place table at name join sources =
    or_refuse (columns_of view.tables table) place NoTable >>= (λ columns. source_behind place at name join (Table table) columns sources)

abbrev pub table_source : View → JoinKind → Span → Option Span → Sources → Answer Sources
table_source view join name alias sources =
    named_table view name.start (folded_at view.script name) (source_name name alias).start (name_of view (source_name name alias)) join sources

-- a subquery, which begins at this parenthesis
abbrev pub query_source : View → JoinKind → ℕ → Span → Sources → BoundSelect → Answer Sources
query_source view join place alias sources query =
    source_behind place alias.start (name_of view alias) join (Query query) (out-BoundSelect query).columns sources

abbrev pub few_sources : Sources → Option ℕ → Answer Sources
few_sources sources None = Ok sources
few_sources sources (Some ninth) = refuse ninth TooManyTables

abbrev pub few_columns : ℕ → Sources → Answer Sources
few_columns place sources = unless (nat_le (length sources.columns) most_columns) place TooManyColumns sources

-- Once all are bound: there aren't too many, nor too many columns; the place is that of the first token behind FROM.
abbrev pub all_sources : ℕ → Sources → Answer Sources
all_sources place sources = few_sources sources sources.ninth >>= few_columns place
