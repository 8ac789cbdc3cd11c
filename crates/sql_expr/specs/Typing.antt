-- Expressions that are typed over columns.
use Rattle.std.specs.Prelude.{◌≡◌, ◌⊎◌, ℕ, pos, negsuc, ◌-◌, ◌<◌, ◌≤◌, ◌^◌, List, [], ◌∷◌, slice_get, Some, if◌then◌else◌, nat_lt, ⊤}
use Rattle.std.specs.List.{AllByRecursion}
use Rattle.ooc_types.specs.declared.value.Value.{Value}
use Rattle.ooc_types.specs.declared.value.Value.TheVariants.{Null, Truth, Number, Day, Text}
use Rattle.ooc_types.specs.declared.schema.SqlType.{SqlType}
use Rattle.ooc_types.specs.declared.schema.SqlType.TheVariants.{Boolean, Integer, BigInt, HugeInt, Decimal, Date, Varchar}
use Rattle.ooc_types.specs.Meets.{Meets, IsDay}
use Rattle.ooc_decimal.specs.Numeric.{IsNumeric}
use Rattle.sql_expr.specs.declared.tree.Expr.{Expr}
use Rattle.sql_expr.specs.declared.tree.Link.{Link}
use Rattle.sql_expr.specs.declared.tree.Expr.TheOpen.{Expr-F, Link-F}
use Rattle.sql_expr.specs.declared.tree.Expr.TheFolds.{every-Expr}
use Rattle.sql_expr.specs.Kinds.{kind_of}
use Rattle.sql_expr.specs.Operations.{most_digits, IsLinked, IsComparable, IsAmount}

-- an integer literal has the smallest type that holds it
abbrev pub integer_type : ℕ → SqlType
integer_type n = if nat_lt n (2 ^ 31) then Integer else (if nat_lt n (2 ^ 63) then BigInt else HugeInt)

-- the width of a literal with a point is the least that holds it and its places, and is at least 1
pub record IsPointLiteral (n scale width : ℕ) : Type 0 where
  pub some_digit : 1 ≤ width
  pub places : scale ≤ width
  pub small : n < 10 ^ width
  pub most : width ≤ most_digits
  pub least : (width ≡ 1) ⊎ (width ≡ scale) ⊎ (10 ^ (width - 1) ≤ n)

abbrev pub IsNumberLiteral : SqlType → ℕ → ℕ → Type 0
IsNumberLiteral Boolean n scale = ⊥
IsNumberLiteral Integer n scale = (scale ≡ 0) × (integer_type n ≡ Integer)
IsNumberLiteral BigInt n scale = (scale ≡ 0) × (integer_type n ≡ BigInt)
IsNumberLiteral HugeInt n scale = (scale ≡ 0) × (integer_type n ≡ HugeInt) × (n < 2 ^ 127)
IsNumberLiteral (Decimal width places) n scale = (scale ≡ places) × IsPointLiteral n scale width
IsNumberLiteral Date n scale = ⊥
IsNumberLiteral Varchar n scale = ⊥

-- A literal and its type. A minus before it is a node of its own, so its number isn't negative.
abbrev pub IsLiteral : SqlType → Value → Type 0
IsLiteral kind Null = ⊥
IsLiteral kind (Truth truth) = kind ≡ Boolean
IsLiteral kind (Number (pos n) scale) = IsNumberLiteral kind n scale
IsLiteral kind (Number (negsuc n) scale) = ⊥
IsLiteral kind (Day day) = (kind ≡ Date) × IsDay day
IsLiteral kind (Text bytes) = kind ≡ Varchar

-- the links of a chain that has this type before them
abbrev pub AreLinks : SqlType → List Link → Type 0
AreLinks kind [] = ⊤
AreLinks kind (link ∷ links) =
    IsLinked link.sign kind (kind_of link.right) link.kind × AreLinks link.kind links

-- What the table of operations asks of one node, by the types of its operands.
abbrev pub IsTypedNode : List SqlType → Expr-F Expr Link → Type 0
IsTypedNode columns (Expr-F.Constant value kind) = IsLiteral kind value
IsTypedNode columns (Expr-F.Column place kind) = slice_get columns place ≡ Some kind
IsTypedNode columns (Expr-F.Not of) = kind_of of ≡ Boolean
IsTypedNode columns (Expr-F.Minus of kind) = IsNumeric kind × (kind_of of ≡ kind)
IsTypedNode columns (Expr-F.Every list) = AllByRecursion (λ operand. kind_of operand ≡ Boolean) list
IsTypedNode columns (Expr-F.Either list) = AllByRecursion (λ operand. kind_of operand ≡ Boolean) list
IsTypedNode columns (Expr-F.Chain first links) = IsAmount (kind_of first) × AreLinks (kind_of first) links
IsTypedNode columns (Expr-F.Compare sign left right) = IsComparable (kind_of left) (kind_of right)
IsTypedNode columns (Expr-F.IsNull of negated) = ⊤
IsTypedNode columns (Expr-F.Like of pattern negated) = kind_of of ≡ Varchar
IsTypedNode columns (Expr-F.OneOf of list negated) = AllByRecursion (λ constant. IsComparable (kind_of of) (kind_of constant)) list
IsTypedNode columns (Expr-F.Between of low high negated) = IsComparable (kind_of of) (kind_of low) × IsComparable (kind_of of) (kind_of high)

abbrev pub AnyLink : Link-F Expr Link → Type 0
AnyLink link = ⊤

-- An expression that is typed over columns of these types: each of its nodes is.
abbrev pub IsTyped : List SqlType → Expr → Type 0
IsTyped columns = every-Expr (IsTypedNode columns) AnyLink

-- An expression and a row that has its columns: it is typed over the types of some columns, and the row meets these.
pub record FitsRow (expr : Expr) (row : List Value) : Type 0 where
  pub columns : List SqlType
  pub limit : ℕ
  pub typed : IsTyped columns expr
  pub meets : Meets limit columns row
