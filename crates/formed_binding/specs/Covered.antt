-- What keys of GROUP BY cover.
use Rattle.std.specs.Prelude.{◌≡◌, ◌⊎◌, ℕ, ◌≤◌, true, List, [], ◌∷◌, ⊤}
use Rattle.sql_expr.specs.declared.tree.Expr.{Expr}
use Rattle.sql_expr.specs.declared.tree.Link.{Link}
use Rattle.sql_expr.specs.declared.tree.Expr.TheOpen.{Expr-F}
use Rattle.sql_expr.specs.declared.tree.Expr.TheViews.{out-Expr}
use Rattle.sql_scope.specs.Parts.{is_key}

-- ---- which trees stand in another as its parts

abbrev pub IsIn : Expr → List Expr → Type 0
IsIn child [] = ⊥
IsIn child (e ∷ list) = (child ≡ e) ⊎ IsIn child list

abbrev pub IsInLinks : Expr → List Link → Type 0
IsInLinks child [] = ⊥
IsInLinks child (l ∷ links) = (child ≡ l.right) ⊎ IsInLinks child links

abbrev pub IsChild : Expr → Expr-F Expr Link → Type 0
IsChild child (Expr-F.Constant value kind) = ⊥
IsChild child (Expr-F.Column place kind) = ⊥
IsChild child (Expr-F.Not of) = (child ≡ of)
IsChild child (Expr-F.Minus of kind) = (child ≡ of)
IsChild child (Expr-F.Every list) = IsIn child list
IsChild child (Expr-F.Either list) = IsIn child list
IsChild child (Expr-F.Chain first links) = (child ≡ first) ⊎ IsInLinks child links
IsChild child (Expr-F.Compare sign left right) = (child ≡ left) ⊎ (child ≡ right)
IsChild child (Expr-F.IsNull of negated) = (child ≡ of)
IsChild child (Expr-F.Like of pattern negated) = (child ≡ of)
IsChild child (Expr-F.OneOf of list negated) = (child ≡ of) ⊎ IsIn child list
IsChild child (Expr-F.Between of low high negated) = (child ≡ of) ⊎ ((child ≡ low) ⊎ (child ≡ high))

-- ---- what keys cover

-- a column behind those of the sources, which are so many
abbrev pub IsBeyond : ℕ → Expr-F Expr Link → Type 0
IsBeyond width (Expr-F.Constant value kind) = ⊤
IsBeyond width (Expr-F.Column place kind) = width ≤ place
IsBeyond width (Expr-F.Not of) = ⊤
IsBeyond width (Expr-F.Minus of kind) = ⊤
IsBeyond width (Expr-F.Every list) = ⊤
IsBeyond width (Expr-F.Either list) = ⊤
IsBeyond width (Expr-F.Chain first links) = ⊤
IsBeyond width (Expr-F.Compare sign left right) = ⊤
IsBeyond width (Expr-F.IsNull of negated) = ⊤
IsBeyond width (Expr-F.Like of pattern negated) = ⊤
IsBeyond width (Expr-F.OneOf of list negated) = ⊤
IsBeyond width (Expr-F.Between of low high negated) = ⊤

-- A tree is a key, or it is a column of an aggregate, or no column and each of its parts is covered.
pub data Covered (keys : List Expr) (width : ℕ) : Expr → Type 0 where
  by_key : (e : Expr) → is_key keys e ≡ true → Covered keys width e
  by_parts : (e : Expr) (x : Expr-F Expr Link) → out-Expr e ≡ x → IsBeyond width x → ((child : Expr) → IsChild child x → Covered keys width child) → Covered keys width e
