-- ORDER BY, LIMIT and OFFSET.
use Rattle.std.specs.Prelude.{ℕ, ◌-◌, Bool, false, ◌&&◌, nat_le, List, [], ◌∷◌, ◌++◌, length, slice_get, Option, Some, None, Ok}
use Rattle.ooc_types.specs.declared.schema.Column.{Column}
use Rattle.ooc_types.specs.declared.refusal.RefusalKind.TheVariants.{NoColumn, Ambiguous, BadPosition}
use Rattle.bound_tree.specs.declared.select.SortKey.{SortKey}
use Rattle.bound_tree.specs.declared.select.Cut.{Cut}
use Rattle.sql_grammar.specs.declared.tree.expr.Span.{Span}
use Rattle.sql_grammar.specs.declared.tree.select.Key.{Key}
use Rattle.sql_grammar.specs.declared.tree.select.KeyColumn.{KeyColumn}
use Rattle.sql_grammar.specs.declared.tree.select.KeyColumn.TheVariants.{Position, Name}
use Rattle.sql_scope.specs.declared.scope.ScopeColumn.{ScopeColumn}
use Rattle.sql_scope.specs.Answer.{Answer, refuse, unless, or_refuse, each, ◌>>=◌}
use Rattle.sql_scope.specs.Texts.{folded_at}
use Rattle.sql_scope.specs.Scopes.{View, is_in}
use Rattle.sql_clauses.specs.Numbers.{number_at, written_number}
use Rattle.sql_clauses.specs.Tables.{is_called}
use Rattle.sql_clauses.specs.declared.places.Seen.{Seen}
use Rattle.sql_clauses.specs.declared.places.Seen.TheVariants.{Nothing, One, Several}
use Rattle.sql_clauses.specs.Places.{places, first_place, seen}

-- an output's number, from 1 on
abbrev pub position : ℕ → ℕ → ℕ → Answer ℕ
position count place n = unless (nat_le 1 n && nat_le n count) place BadPosition (n - 1)

-- exactly one output has to have the name
abbrev pub only_output : ℕ → Seen → Answer ℕ
only_output place Nothing = refuse place NoColumn
only_output place (One at) = Ok at
only_output place Several = refuse place Ambiguous

abbrev pub is_there : List ℕ → List ℕ → Option ScopeColumn → Bool
is_there source name None = false
is_there source name (Some column) = is_in source name column

-- whether an output is a column of that source and name as it is
abbrev pub shows_column : List ScopeColumn → List ℕ → List ℕ → Option ℕ → Bool
shows_column columns source name None = false
shows_column columns source name (Some at) = is_there source name (slice_get columns at)

abbrev pub output_named : ℕ → List ℕ → List Column → Answer ℕ
output_named place name columns = only_output place (seen (places (is_called name) 0 columns))

-- the first output that is that column
abbrev pub output_of : List ScopeColumn → ℕ → List ℕ → List ℕ → List (Option ℕ) → Answer ℕ
output_of columns place source name plain = or_refuse (first_place (shows_column columns source name) 0 plain) place NoColumn

-- The outputs have these names, and where one is a column of the sources as it is, the place of that column among theirs.
abbrev pub named_key : View → List ScopeColumn → List Column → List (Option ℕ) → Option Span → Span → Answer ℕ
named_key view sources columns plain None name = output_named name.start (folded_at view.script name) columns
named_key view sources columns plain (Some source) name =
    output_of sources source.start (folded_at view.script source) (folded_at view.script name) plain

abbrev pub key_place : View → List ScopeColumn → List Column → List (Option ℕ) → KeyColumn → Answer ℕ
key_place view sources columns plain (Position span) = number_at view span >>= position (length columns) span.start
key_place view sources columns plain (Name written) = named_key view sources columns plain written.source written.name

abbrev pub with_key : Bool → List SortKey → ℕ → Answer (List SortKey)
with_key descending keys place = Ok (keys ++ record { place = place; descending = descending } ∷ [])

abbrev pub key_behind : View → List ScopeColumn → List Column → List (Option ℕ) → Key → List SortKey → Answer (List SortKey)
key_behind view sources columns plain written keys = key_place view sources columns plain written.column >>= with_key written.descending keys

abbrev pub sort_keys : View → List ScopeColumn → List Column → List (Option ℕ) → List Key → Answer (List SortKey)
sort_keys view sources columns plain written = each (key_behind view sources columns plain) (Ok []) written

-- none where nothing of it is written
abbrev pub cut_of : List SortKey → Option ℕ → Option ℕ → Option Cut
cut_of [] None None = None
cut_of keys limit offset = Some (record { keys = keys; limit = limit; offset = offset })

abbrev pub cut : View → List ScopeColumn → List Column → List (Option ℕ) → List Key → Option Span → Option Span → Answer (Option Cut)
cut view sources columns plain order limit offset = do
  keys ← sort_keys view sources columns plain order
  most ← written_number view limit
  from ← written_number view offset
  Ok (cut_of keys most from)
