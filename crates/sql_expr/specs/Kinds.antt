-- The type of an expression.
use Rattle.std.specs.Prelude.{List, [], ◌∷◌}
use Rattle.ooc_types.specs.declared.schema.SqlType.{SqlType}
use Rattle.ooc_types.specs.declared.schema.SqlType.TheVariants.{Boolean}
use Rattle.sql_expr.specs.declared.tree.Expr.{Expr}
use Rattle.sql_expr.specs.declared.tree.Link.{Link}
use Rattle.sql_expr.specs.declared.tree.Expr.TheOpen.{Expr-F, Link-F}
use Rattle.sql_expr.specs.declared.tree.Expr.TheFolds.{fold-Expr, fold-Link}

-- the type of a chain is that of its last link
abbrev pub last_kind : SqlType → List SqlType → SqlType
last_kind kind [] = kind
last_kind kind (next ∷ kinds) = last_kind next kinds

abbrev pub kind_step : Expr-F SqlType SqlType → SqlType
kind_step (Expr-F.Constant value kind) = kind
kind_step (Expr-F.Column place kind) = kind
kind_step (Expr-F.Not of) = Boolean
kind_step (Expr-F.Minus of kind) = kind
kind_step (Expr-F.Every list) = Boolean
kind_step (Expr-F.Either list) = Boolean
kind_step (Expr-F.Chain first links) = last_kind first links
kind_step (Expr-F.Compare sign left right) = Boolean
kind_step (Expr-F.IsNull of negated) = Boolean
kind_step (Expr-F.Like of pattern negated) = Boolean
kind_step (Expr-F.OneOf of list negated) = Boolean
kind_step (Expr-F.Between of low high negated) = Boolean

abbrev pub link_kind_step : Link-F SqlType SqlType → SqlType
link_kind_step link = link.kind

abbrev pub kind_of : Expr → SqlType
kind_of = fold-Expr SqlType SqlType kind_step link_kind_step

abbrev pub link_kind : Link → SqlType
link_kind = fold-Link SqlType SqlType kind_step link_kind_step
