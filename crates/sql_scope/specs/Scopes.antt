-- The columns that an expression sees, and how names find them.
use Rattle.std.specs.Prelude.{ℕ, ◌+◌, Bool, true, false, ◌&&◌, List, [], ◌∷◌, map, take, Option, Some, None, Ok, if◌then◌else◌}
use Rattle.std.specs.Str.{bytes_eq}
use Rattle.ooc_types.specs.declared.schema.SqlType.{SqlType}
use Rattle.ooc_types.specs.declared.schema.Column.{Column as DeclaredColumn}
use Rattle.ooc_types.specs.declared.refusal.RefusalKind.TheVariants.{NoColumn, Ambiguous, NoTable}
use Rattle.sql_expr.specs.declared.tree.Expr.{Expr}
use Rattle.sql_expr.specs.declared.tree.Expr.TheVariants.{Column}
use Rattle.sql_grammar.specs.declared.tree.expr.Span.{Span}
use Rattle.sql_scope.specs.declared.scope.ScopeColumn.{ScopeColumn}
use Rattle.sql_scope.specs.declared.scope.TableColumns.{TableColumns}
use Rattle.sql_scope.specs.declared.names.Found.{Found}
use Rattle.sql_scope.specs.declared.names.Found.TheVariants.{Nothing, One, Several}
use Rattle.sql_scope.specs.Answer.{Answer, refuse}
use Rattle.sql_scope.specs.Texts.{folded_at}

-- what an expression is bound over: the script, the tables, the columns of the sources that it sees, the keys of
-- GROUP BY, how long a text may be, and whether an aggregate may stand here
pub record View : Type 0 where
  pub script : List ℕ
  pub tables : List TableColumns
  pub columns : List ScopeColumn
  pub keys : List Expr
  pub limit : ℕ
  pub aggregates : Bool

-- the argument of an aggregate has none
abbrev pub without_aggregates : View → View
without_aggregates view = record view { aggregates = false }

-- what is bound over these columns, where no aggregate stands
abbrev pub over_columns : View → List ScopeColumn → View
over_columns view columns = record view { columns = columns; keys = []; aggregates = false }

-- the first columns alone
abbrev pub front : View → ℕ → View
front view count = record view { columns = take count view.columns }

-- items and HAVING: these keys, and aggregates
abbrev pub over_keys : View → List Expr → View
over_keys view keys = record view { keys = keys; aggregates = true }

-- the columns of the first table of that name
abbrev pub columns_of : List TableColumns → List ℕ → Option (List DeclaredColumn)
columns_of [] name = None
columns_of (table ∷ tables) name = if bytes_eq table.name name then Some table.columns else columns_of tables name

abbrev pub kinds : View → List SqlType
kinds view = map (λ column. column.kind) view.columns

-- a column's place and its type
pub record Spot : Type 0 where
  pub place : ℕ
  pub kind : SqlType

-- the columns that pass a test, with their places from a number on
abbrev pub spots : (ScopeColumn → Bool) → ℕ → List ScopeColumn → List Spot
spots test at [] = []
spots test at (column ∷ columns) =
    if test column then record { place = at; kind = column.kind } ∷ spots test (at + 1) columns else spots test (at + 1) columns

abbrev pub is_of : List ℕ → ScopeColumn → Bool
is_of source column = bytes_eq column.source source

abbrev pub is_named : List ℕ → ScopeColumn → Bool
is_named name column = bytes_eq column.name name

abbrev pub is_in : List ℕ → List ℕ → ScopeColumn → Bool
is_in source name column = is_of source column && is_named name column

-- what stands in the scope under a name: nothing, one column, or several
abbrev pub found : List Spot → Found
found [] = Nothing
found (spot ∷ []) = One spot.place spot.kind
found (spot ∷ more ∷ rest) = Several

-- one more is seen
abbrev pub one_more : Found → ℕ → SqlType → Found
one_more Nothing place kind = One place kind
one_more (One at of) place kind = Several
one_more Several place kind = Several

abbrev pub counted : Bool → Found → ℕ → SqlType → Found
counted holds seen place kind = if holds then one_more seen place kind else seen

-- what is seen where these come after what was
abbrev pub after : Found → List Spot → Found
after seen [] = seen
after seen (spot ∷ spots) = after (one_more seen spot.place spot.kind) spots

-- exactly one column has to be meant
abbrev pub only : ℕ → Found → Answer Expr
only place Nothing = refuse place NoColumn
only place (One at kind) = Ok (Column at kind)
only place Several = refuse place Ambiguous

-- a source has a column at least, so one that has none isn't there
abbrev pub in_source : ℕ → Found → Found → Answer Expr
in_source place Nothing named = refuse place NoTable
in_source place (One at kind) named = only place named
in_source place Several named = only place named

abbrev pub named_column : View → Option Span → Span → Answer Expr
named_column view None name = only name.start (found (spots (is_named (folded_at view.script name)) 0 view.columns))
named_column view (Some source) name =
    in_source source.start (found (spots (is_of (folded_at view.script source)) 0 view.columns))
    (found (spots (is_in (folded_at view.script source) (folded_at view.script name)) 0 view.columns))

-- the first token of a column's name
abbrev pub first_token : Option Span → Span → ℕ
first_token None name = name.start
first_token (Some source) name = source.start
