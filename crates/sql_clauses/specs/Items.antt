-- What a core shows.
use Rattle.std.specs.Prelude.{◌≡◌, Result, ℕ, ◌+◌, Bool, true, false, ◌||◌, nat_lt, codes, decimal, List, [], ◌∷◌, ◌++◌, length, slice_get, Option, Some, None, Ok, if◌then◌else◌}
use Rattle.std.specs.Str.{bytes_eq}
use Rattle.ooc_types.specs.declared.refusal.RefusalKind.TheVariants.{NotGrouped, NoTable}
use Rattle.sql_expr.specs.declared.tree.Expr.{Expr as Tree}
use Rattle.sql_expr.specs.declared.tree.Link.{Link}
use Rattle.sql_expr.specs.declared.tree.Expr.TheVariants.{Column}
use Rattle.sql_expr.specs.declared.tree.Expr.TheOpen.{Expr-F}
use Rattle.sql_expr.specs.declared.tree.Expr.TheViews.{out-Expr}
use Rattle.sql_expr.specs.Kinds.{kind_of}
use Rattle.sql_grammar.specs.declared.tree.expr.Span.{Span}
use Rattle.sql_scope.specs.declared.scope.ScopeColumn.{ScopeColumn}
use Rattle.sql_scope.specs.declared.fault.BindFault.{BindFault}
use Rattle.sql_scope.specs.declared.part.Part.{Part}
use Rattle.sql_scope.specs.Answer.{Answer, GoesOn, refuse, unless, each, ◌>>=◌}
use Rattle.sql_scope.specs.Texts.{folded_at}
use Rattle.sql_scope.specs.Scopes.{View, Spot, spots}
use Rattle.sql_scope.specs.Parts.{part_of}
use Rattle.sql_clauses.specs.Names.{name_of}
use Rattle.sql_clauses.specs.declared.items.Outputs.{Outputs}

-- nothing is shown yet
abbrev pub no_outputs : Outputs
no_outputs = record { trees = []; columns = []; plain = []; calls = [] }

abbrev pub with_bare : Part → Option ℕ → Answer Part
with_bare part None = Ok part
with_bare part (Some place) = refuse place NotGrouped

-- In a grouped statement every column outside aggregates is covered by a key: asked of the whole, once it is bound.
abbrev pub covered : Bool → Part → Answer Part
covered grouped part = if grouped then with_bare part part.bare else Ok part

abbrev pub plain_in : ℕ → Expr-F Tree Link → Option ℕ
plain_in count (Expr-F.Column place kind) = if nat_lt place count then Some place else None
plain_in count node = None

-- the column of the sources that it is, where it is one as it is
abbrev pub plain_column : View → Tree → Option ℕ
plain_column view tree = plain_in (length view.columns) (out-Expr tree)

-- the name of the item of that number, from 1 on, where none is written and it is no column
abbrev pub numbered : ℕ → List ℕ
numbered number = codes "col" ++ decimal number

abbrev pub declared_name : ℕ → Option ScopeColumn → List ℕ
declared_name number None = numbered number
declared_name number (Some column) = column.declared

abbrev pub plain_name_of : View → ℕ → Option ℕ → List ℕ
plain_name_of view number None = numbered number
plain_name_of view number (Some at) = declared_name number (slice_get view.columns at)

-- the name behind AS, else that of a plain column, else by its number
abbrev pub output_name : View → ℕ → Option Span → Option ℕ → List ℕ
output_name view number None plain = plain_name_of view number plain
output_name view number (Some alias) plain = name_of view alias

abbrev pub with_output : View → Option Span → Outputs → Part → Answer Outputs
with_output view alias outputs part = Ok (record {
  trees = outputs.trees ++ part.tree ∷ [];
  columns = outputs.columns ++ record {
    name = output_name view (length outputs.trees + 1) alias (plain_column view part.tree);
    kind = kind_of part.tree;
    nullable = true;
  } ∷ [];
  plain = outputs.plain ++ plain_column view part.tree ∷ [];
  calls = outputs.calls ++ part.calls;
})

-- an expression behind the items before it
abbrev pub value_item : View → Bool → Option Span → Outputs → Part → Answer Outputs
value_item view grouped alias outputs part = covered grouped part >>= with_output view alias outputs

-- a column that `*` at this place stands for
abbrev pub column_item : View → Bool → ℕ → Spot → Outputs → Answer Outputs
column_item view grouped place spot outputs =
    value_item view grouped None outputs (part_of view (Column spot.place spot.kind) (Some place) [])

abbrev pub column_items : View → Bool → ℕ → List Spot → Outputs → Answer Outputs
column_items view grouped place shown outputs = each (column_item view grouped place) (Ok outputs) shown

-- `*`: all columns of all sources
abbrev pub is_any : ScopeColumn → Bool
is_any column = true

abbrev pub star_item : View → Bool → ℕ → Outputs → Answer Outputs
star_item view grouped place outputs = column_items view grouped place (spots is_any 0 view.columns) outputs

-- a source has a column at least, so one that has none isn't there
abbrev pub is_of_source : List ℕ → ScopeColumn → Bool
is_of_source source column = bytes_eq column.source source

abbrev pub is_source : List ℕ → List ScopeColumn → Bool
is_source source [] = false
is_source source (column ∷ columns) = is_of_source source column || is_source source columns

abbrev pub source_columns : View → Bool → ℕ → List ℕ → Outputs → Answer Outputs
source_columns view grouped place source outputs = column_items view grouped place (spots (is_of_source source) 0 view.columns) outputs

abbrev pub known_source : View → Bool → ℕ → List ℕ → Outputs → Answer Outputs
known_source view grouped place source outputs =
    unless (is_source source view.columns) place NoTable outputs >>= source_columns view grouped place source

-- The code goes on behind what was bound where this holds; else it stays as it was.
abbrev pub GoesOnIf : {A : Type 0} → Bool → (A → Answer A) → Result A BindFault → Result A BindFault → Type 0
GoesOnIf true f got result = GoesOn f got result
GoesOnIf false f got result = result ≡ got

-- `s.*`: all columns of that source
abbrev pub source_item : View → Bool → Span → Outputs → Answer Outputs
source_item view grouped source outputs = known_source view grouped source.start (folded_at view.script source) outputs
