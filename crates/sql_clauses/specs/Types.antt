-- The types of columns, as they are written.
use Rattle.std.specs.Prelude.{ℕ, codes, Bool, ◌||◌, ◌&&◌, nat_le, List, Option, Some, None, Ok, is_none, if◌then◌else◌}
use Rattle.std.specs.Str.{bytes_eq}
use Rattle.ooc_types.specs.declared.schema.SqlType.{SqlType}
use Rattle.ooc_types.specs.declared.schema.SqlType.TheVariants as kinds
use Rattle.ooc_types.specs.declared.refusal.RefusalKind.TheVariants.{NoType, DecimalTooWide}
use Rattle.sql_grammar.specs.declared.tree.expr.Span.{Span}
use Rattle.sql_grammar.specs.declared.tree.statement.Sizes.{Sizes}
use Rattle.sql_grammar.specs.declared.tree.statement.TypeName.{TypeName}
use Rattle.sql_scope.specs.declared.fault.BindFault.{BindFault}
use Rattle.sql_scope.specs.declared.fault.BindFault.TheVariants.{Refused}
use Rattle.sql_scope.specs.Answer.{Answer, refuse, unless, ◌>>=◌}
use Rattle.sql_scope.specs.Texts.{folded_at}
use Rattle.sql_scope.specs.Scopes.{View}
use Rattle.sql_clauses.specs.declared.types.TypeWord.{TypeWord}
use Rattle.sql_clauses.specs.declared.types.TypeWord.TheVariants.{Boolean, Integer, BigInt, HugeInt, Decimal, Date, Varchar}
use Rattle.sql_clauses.specs.Numbers.{number_at}

abbrev pub is_either : List ℕ → List ℕ → List ℕ → Bool
is_either name word other = bytes_eq name word || bytes_eq name other

-- the names of types
abbrev pub type_word : List ℕ → Option TypeWord
type_word name =
    if is_either name (codes "boolean") (codes "bool") then Some Boolean
    else if is_either name (codes "integer") (codes "int") then Some Integer
    else if bytes_eq name (codes "bigint") then Some BigInt
    else if bytes_eq name (codes "hugeint") then Some HugeInt
    else if is_either name (codes "decimal") (codes "numeric") then Some Decimal
    else if bytes_eq name (codes "date") then Some Date
    else if is_either name (codes "varchar") (codes "text") then Some Varchar
    else None

-- DECIMAL alone
abbrev pub default_width : ℕ
default_width = 18

abbrev pub default_scale : ℕ
default_scale = 3

-- the widest DECIMAL
abbrev pub most_width : ℕ
most_width = 38

abbrev pub is_decimal : ℕ → ℕ → Bool
is_decimal width scale = (nat_le 1 width && nat_le width most_width) && nat_le scale width

abbrev pub decimal_type : ℕ → ℕ → ℕ → Answer SqlType
decimal_type place width scale = unless (is_decimal width scale) place DecimalTooWide (kinds.Decimal width scale)

-- DECIMAL(w) has no places
abbrev pub scale_of : View → Option Span → Answer ℕ
scale_of view None = Ok 0
scale_of view (Some span) = number_at view span

abbrev pub sized_decimal : View → ℕ → Option Sizes → Answer SqlType
sized_decimal view place None = Ok (kinds.Decimal default_width default_scale)
sized_decimal view place (Some sizes) =
    number_at view sizes.first >>= (λ width. scale_of view sizes.second >>= decimal_type place width)

abbrev pub no_type_at : ℕ → BindFault
no_type_at place = Refused place NoType

-- VARCHAR(n) is taken, and n counts for nothing
abbrev pub sized_varchar : ℕ → Option Sizes → Answer SqlType
sized_varchar place None = Ok kinds.Varchar
sized_varchar place (Some sizes) = unless (is_none sizes.second) place NoType kinds.Varchar

-- no other type has sizes
abbrev pub unsized_type : ℕ → Option Sizes → SqlType → Answer SqlType
unsized_type place sizes kind = unless (is_none sizes) place NoType kind

abbrev pub type_of_word : View → ℕ → Option Sizes → Option TypeWord → Answer SqlType
type_of_word view place sizes None = refuse place NoType
type_of_word view place sizes (Some Boolean) = unsized_type place sizes kinds.Boolean
type_of_word view place sizes (Some Integer) = unsized_type place sizes kinds.Integer
type_of_word view place sizes (Some BigInt) = unsized_type place sizes kinds.BigInt
type_of_word view place sizes (Some HugeInt) = unsized_type place sizes kinds.HugeInt
type_of_word view place sizes (Some Decimal) = sized_decimal view place sizes
type_of_word view place sizes (Some Date) = unsized_type place sizes kinds.Date
type_of_word view place sizes (Some Varchar) = sized_varchar place sizes

-- the type that a column is declared with
abbrev pub declared_type : View → TypeName → Answer SqlType
declared_type view written = type_of_word view written.name.start written.sizes (type_word (folded_at view.script written.name))
