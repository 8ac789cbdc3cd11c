-- COPY and its options.
use Rattle.std.specs.Prelude.{ℕ, Bool, true, ◌&&◌, not, ◌==◌, nat_lt, List, [], ◌∷◌, Option, Some, None, Ok, is_none, unwrap_or, if◌then◌else◌}
use Rattle.ooc_types.specs.declared.refusal.RefusalKind.TheVariants.{BadOption}
use Rattle.bound_tree.specs.declared.statement.Bound.{Bound}
use Rattle.bound_tree.specs.declared.statement.Bound.TheVariants.{Copy}
use Rattle.sql_grammar.specs.declared.tree.expr.Span.{Span}
use Rattle.sql_grammar.specs.declared.tree.statement.CopyOption.{CopyOption}
use Rattle.sql_grammar.specs.declared.tree.statement.CopyOption.TheVariants.{Header, Delimiter, Null}
use Rattle.sql_scope.specs.declared.fault.BindFault.{BindFault}
use Rattle.sql_scope.specs.declared.fault.BindFault.TheVariants.{Refused}
use Rattle.sql_scope.specs.Answer.{Answer, unless, each, or_refuse, ◌>>=◌}
use Rattle.sql_scope.specs.Scopes.{View}
use Rattle.sql_clauses.specs.declared.copy.CopyOptions.{CopyOptions}
use Rattle.sql_clauses.specs.Names.{text_of}
use Rattle.sql_clauses.specs.Tables.{known_table}

-- none was written yet
abbrev pub no_options : CopyOptions
no_options = record { header = None; delimiter = None; null = None }

-- the ASCII bytes other than a double quote, CR and LF
abbrev pub is_delimiter : ℕ → Bool
is_delimiter byte = ((nat_lt byte 128 && not (byte == 34)) && not (byte == 13)) && not (byte == 10)

-- the delimiter that a text is: one such byte
abbrev pub delimiter_of : List ℕ → Option ℕ
delimiter_of [] = None
delimiter_of (byte ∷ []) = if is_delimiter byte then Some byte else None
delimiter_of (byte ∷ other ∷ more) = None

abbrev pub bad_option_at : ℕ → BindFault
bad_option_at place = Refused place BadOption

abbrev pub with_delimiter : CopyOptions → ℕ → Answer CopyOptions
with_delimiter options byte = Ok (record options { delimiter = Some byte })

-- none stands twice

abbrev pub header_behind : ℕ → Bool → CopyOptions → Answer CopyOptions
header_behind place value options = unless (is_none options.header) place BadOption (record options { header = Some value })

abbrev pub delimiter_behind : ℕ → List ℕ → CopyOptions → Answer CopyOptions
delimiter_behind place text options =
    unless (is_none options.delimiter) place BadOption options >>= (λ once. or_refuse (delimiter_of text) place BadOption >>= with_delimiter once)

abbrev pub null_behind : ℕ → List ℕ → CopyOptions → Answer CopyOptions
null_behind place text options = unless (is_none options.null) place BadOption (record options { null = Some text })

-- an option behind those before it
abbrev pub option_behind : View → CopyOption → CopyOptions → Answer CopyOptions
option_behind view (Header place value) options = header_behind place value options
option_behind view (Delimiter place text) options = delimiter_behind place (text_of view text) options
option_behind view (Null place text) options = null_behind place (text_of view text) options

-- the delimiter where none is written: a comma
abbrev pub default_delimiter : ℕ
default_delimiter = 44

-- the NULL text where none is written: the empty one
abbrev pub null_text : Option (List ℕ) → List ℕ
null_text null = unwrap_or null []

abbrev pub copied : List ℕ → List ℕ → CopyOptions → Bound
copied table file options =
    Copy table file (unwrap_or options.header true) (unwrap_or options.delimiter default_delimiter) (null_text options.null)

-- The table is there, and then the options in order.
abbrev pub copy_table : View → Span → Span → List CopyOption → Answer Bound
copy_table view name file options =
    known_table view name >>= (λ table. each (option_behind view) (Ok no_options) options >>= (λ all. Ok (copied table (text_of view file) all)))
