-- Set operations: what the columns of two operands are together.
use Rattle.std.specs.Prelude.{ℕ, Bool, true, false, ◌&&◌, ◌==◌, List, [], ◌∷◌, ◌++◌, map, zip, length, Option, Some, Ok, if◌then◌else◌}
use Rattle.ooc_types.specs.declared.schema.SqlType.{SqlType}
use Rattle.ooc_types.specs.declared.schema.SqlType.TheVariants.{Boolean, Integer, BigInt, HugeInt, Decimal, Date, Varchar}
use Rattle.ooc_types.specs.declared.schema.Column.{Column}
use Rattle.ooc_types.specs.declared.refusal.RefusalKind.TheVariants.{ColumnCount, TypeMismatch}
use Rattle.sql_expr.specs.Operations.{wider}
use Rattle.sql_scope.specs.Answer.{Answer, unless, or_refuse, each, ◌>>=◌}

abbrev pub same_type : SqlType → SqlType → Bool
same_type Boolean Boolean = true
same_type Integer Integer = true
same_type BigInt BigInt = true
same_type HugeInt HugeInt = true
same_type (Decimal width scale) (Decimal other places) = width == other && scale == places
same_type Date Date = true
same_type Varchar Varchar = true
same_type k l = false

-- the type of a column of both: it is one, or the wider of two types of integers
abbrev pub common_type : SqlType → SqlType → Option SqlType
common_type k l = if same_type k l then Some k else wider k l

-- a column of the result has the name of the first operand's
abbrev pub with_column : Column → List Column → SqlType → Answer (List Column)
with_column left columns kind = Ok (columns ++ record { name = left.name; kind = kind; nullable = true } ∷ [])

-- a pair of columns behind those before it
abbrev pub pair_behind : ℕ → Column × Column → List Column → Answer (List Column)
pair_behind place pair columns = or_refuse (common_type pair.0.kind pair.1.kind) place TypeMismatch >>= with_column pair.0 columns

-- at the second operand's SELECT: first the number of columns, and then their types
abbrev pub common_columns : ℕ → List Column → List Column → Answer (List Column)
common_columns place left right =
    unless (length left == length right) place ColumnCount (zip left right) >>= each (pair_behind place) (Ok [])

abbrev pub types_of : List Column → List SqlType
types_of columns = map (λ column. column.kind) columns
