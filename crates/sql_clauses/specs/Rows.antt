-- Rows before their order, set operations over them, and the whole SELECT.
use Rattle.std.specs.Prelude.{ℕ, Bool, List, [], ◌∷◌, ◌++◌, Option, Ok}
use Rattle.ooc_types.specs.declared.schema.Column.{Column}
use Rattle.sql_expr.specs.declared.tree.Expr.{Expr as Tree}
use Rattle.bound_tree.specs.declared.kinds.SetKind.{SetKind}
use Rattle.bound_tree.specs.declared.kinds.SetKind.TheVariants as bound
use Rattle.bound_tree.specs.declared.select.Cut.{Cut}
use Rattle.bound_tree.specs.declared.select.BoundRows.TheVariants.{Set as SetRows}
use Rattle.bound_tree.specs.declared.select.BoundSelect.{BoundSelect}
use Rattle.bound_tree.specs.declared.select.BoundRows.TheViews.{roll-BoundSelect}
use Rattle.sql_grammar.specs.declared.tree.expr.Span.{Span}
use Rattle.sql_grammar.specs.declared.tree.select.Key.{Key}
use Rattle.sql_grammar.specs.declared.tree.select.SetKind.{SetKind as WrittenKind}
use Rattle.sql_grammar.specs.declared.tree.select.SetKind.TheVariants as written
use Rattle.sql_scope.specs.declared.scope.ScopeColumn.{ScopeColumn}
use Rattle.sql_scope.specs.declared.part.Part.{Part}
use Rattle.sql_scope.specs.Answer.{Answer, ◌>>=◌}
use Rattle.sql_scope.specs.Scopes.{View}
use Rattle.sql_clauses.specs.declared.cores.NamedRows.{NamedRows}
use Rattle.sql_clauses.specs.declared.rows.Unordered.{Unordered}
use Rattle.sql_clauses.specs.declared.rows.Unordered.TheVariants.{Core, Set}
use Rattle.sql_clauses.specs.Cores.{finished}
use Rattle.sql_clauses.specs.Sets.{common_columns, types_of}
use Rattle.sql_clauses.specs.Order.{cut}

-- a key of GROUP BY behind those before it
abbrev pub with_key : List Tree → Part → Answer (List Tree)
with_key keys part = Ok (keys ++ part.tree ∷ [])

abbrev pub set_kind : WrittenKind → SetKind
set_kind written.Union = bound.Union
set_kind written.Except = bound.Except
set_kind written.Intersect = bound.Intersect

abbrev pub set_rows : SetKind → Bool → NamedRows → NamedRows → List Column → Answer NamedRows
set_rows kind all left right columns =
    Ok (record { rows = SetRows kind all left.rows right.rows (types_of columns); columns = columns })

-- a set operation, whose second operand begins at this place
abbrev pub combined : WrittenKind → Bool → ℕ → NamedRows → NamedRows → Answer NamedRows
combined kind all place left right = common_columns place left.columns right.columns >>= set_rows (set_kind kind) all left right

abbrev pub output_columns : Unordered → List Column
output_columns (Core core) = core.selected.outputs.columns
output_columns (Set rows) = rows.columns

-- over a set operation no output is a column as it is
abbrev pub plain_outputs : Unordered → List (Option ℕ)
plain_outputs (Core core) = core.selected.outputs.plain
plain_outputs (Set rows) = []

abbrev pub source_columns : Unordered → List ScopeColumn
source_columns (Core core) = core.columns
source_columns (Set rows) = []

-- an operand, and what is ordered
abbrev pub finished_rows : Unordered → Answer NamedRows
finished_rows (Core core) = finished core
finished_rows (Set rows) = Ok rows

abbrev pub cut_rows : View → Unordered → List Key → Option Span → Option Span → Answer (Option Cut)
cut_rows view rows order limit offset =
    cut view (source_columns rows) (output_columns rows) (plain_outputs rows) order limit offset

abbrev pub select_with : Option Cut → NamedRows → Answer BoundSelect
select_with window rows = Ok (roll-BoundSelect (record { rows = rows.rows; columns = rows.columns; cut = window }))

-- The keys come behind the rows; that a core has too many columns is asked then.
abbrev pub select_of : View → List Key → Option Span → Option Span → Unordered → Answer BoundSelect
select_of view order limit offset rows =
    cut_rows view rows order limit offset >>= (λ window. finished_rows rows >>= select_with window)
