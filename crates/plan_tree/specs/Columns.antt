-- The columns that an expression names.
use Rattle.std.specs.Prelude.{ℕ, List, [], ◌∷◌, ◌++◌, flat_map}
use Rattle.sql_expr.specs.declared.tree.Expr.{Expr}
use Rattle.sql_expr.specs.declared.tree.Link.{Link}
use Rattle.sql_expr.specs.declared.tree.Expr.TheOpen.{Expr-F, Link-F}
use Rattle.sql_expr.specs.declared.tree.Expr.TheFolds.{fold-Expr, fold-Link}

abbrev pub together : List (List ℕ) → List ℕ
together lists = flat_map (λ list. list) lists

abbrev pub columns_step : Expr-F (List ℕ) (List ℕ) → List ℕ
columns_step (Expr-F.Constant value kind) = []
columns_step (Expr-F.Column place kind) = place ∷ []
columns_step (Expr-F.Not of) = of
columns_step (Expr-F.Minus of kind) = of
columns_step (Expr-F.Every list) = together list
columns_step (Expr-F.Either list) = together list
columns_step (Expr-F.Chain first links) = first ++ together links
columns_step (Expr-F.Compare sign left right) = left ++ right
columns_step (Expr-F.IsNull of negated) = of
columns_step (Expr-F.Like of pattern negated) = of
columns_step (Expr-F.OneOf of list negated) = of ++ together list
columns_step (Expr-F.Between of low high negated) = of ++ (low ++ high)

abbrev pub link_columns_step : Link-F (List ℕ) (List ℕ) → List ℕ
link_columns_step link = link.right

-- the places of the columns, as they are written
abbrev pub columns_of : Expr → List ℕ
columns_of = fold-Expr (List ℕ) (List ℕ) columns_step link_columns_step

abbrev pub link_columns : Link → List ℕ
link_columns = fold-Link (List ℕ) (List ℕ) columns_step link_columns_step
