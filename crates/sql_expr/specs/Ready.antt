-- Operands in a list that fit a row.
use Rattle.std.specs.Prelude.{◌≡◌, List, [], ◌∷◌, ⊤}
use Rattle.ooc_types.specs.declared.value.Value.{Value}
use Rattle.ooc_types.specs.declared.schema.SqlType.{SqlType}
use Rattle.ooc_types.specs.declared.schema.SqlType.TheVariants.{Boolean}
use Rattle.sql_expr.specs.declared.tree.Expr.{Expr}
use Rattle.sql_expr.specs.declared.tree.Link.{Link}
use Rattle.sql_expr.specs.Kinds.{kind_of}
use Rattle.sql_expr.specs.Operations.{IsLinked, IsComparable}
use Rattle.sql_expr.specs.Typing.{FitsRow}

-- the links of a chain that has this type before them
abbrev pub AreReady : List Value → SqlType → List Link → Type 0
AreReady row kind [] = ⊤
AreReady row kind (link ∷ links) =
    FitsRow link.right row × IsLinked link.sign kind (kind_of link.right) link.kind × AreReady row link.kind links

-- the operands of AND or OR
abbrev pub AreConditions : List Value → List Expr → Type 0
AreConditions row [] = ⊤
AreConditions row (operand ∷ list) = FitsRow operand row × (kind_of operand ≡ Boolean) × AreConditions row list

-- the constants of IN, behind an operand of this type
abbrev pub AreComparable : List Value → SqlType → List Expr → Type 0
AreComparable row kind [] = ⊤
AreComparable row kind (constant ∷ list) = FitsRow constant row × IsComparable kind (kind_of constant) × AreComparable row kind list
