-- Expressions over the row of a group: its keys, and then its aggregates.
use Rattle.std.specs.Prelude.{ℕ, ◌+◌, ◌-◌, ◌==◌, nat_le, Bool, ◌&&◌, List, [], ◌∷◌, ◌++◌, map, Option, Some, None, if◌then◌else◌}
use Rattle.sql_expr.specs.declared.tree.Expr.{Expr as Tree}
use Rattle.ooc_types.specs.declared.schema.SqlType.{SqlType}
use Rattle.sql_expr.specs.declared.tree.ChainSign.{ChainSign}
use Rattle.sql_expr.specs.declared.tree.Link.{Link}
use Rattle.sql_expr.specs.declared.tree.Expr.TheVariants as typed
use Rattle.sql_expr.specs.declared.tree.Expr.TheOpen.{Expr-F, Link-F}
use Rattle.sql_expr.specs.declared.tree.Expr.TheFolds.{fold-Expr, map-Expr}
use Rattle.sql_expr.specs.declared.tree.Expr.TheViews.{roll-Expr, roll-Link}
use Rattle.sql_expr.specs.Kinds.{kind_of}
use Rattle.sql_scope.specs.Equality.{same}
use Rattle.sql_clauses.specs.declared.aggregates.CallColumn.{CallColumn}

-- the place of the first key that the tree is, from a number on
abbrev pub key_from : ℕ → List Tree → Tree → Option ℕ
key_from at [] tree = None
key_from at (key ∷ keys) tree = if same key tree then Some at else key_from (at + 1) keys tree

-- whether a column behind those of the sources, which are so many, is this call's
abbrev pub is_of_call : ℕ → ℕ → CallColumn → Bool
is_of_call width place call = nat_le width place && (place - width == call.place)

-- Behind the keys, which are so many, stand the aggregates.
abbrev pub group_place : ℕ → ℕ → List CallColumn → ℕ → ℕ
group_place keys width [] place = place
group_place keys width (call ∷ calls) place = if is_of_call width place call then keys + call.at else group_place keys width calls place

-- how many keys there may be, and how many aggregates
abbrev pub most_places : ℕ
most_places = 64

-- a tree over the columns of the sources and of the aggregates as written, and the same over the row of a group
pub record Regrouped : Type 0 where
  pub tree : Tree
  pub over : Tree

pub record RegroupedLink : Type 0 where
  pub tree : Link
  pub over : Link

abbrev pub written : Expr-F Regrouped RegroupedLink → Tree
written x = roll-Expr (map-Expr Regrouped RegroupedLink Tree Link (λ r. r.tree) (λ l. l.tree) x)

abbrev pub operands_over : Expr-F Regrouped RegroupedLink → Tree
operands_over x = roll-Expr (map-Expr Regrouped RegroupedLink Tree Link (λ r. r.over) (λ l. l.over) x)

-- a column that no key covers is an aggregate's
abbrev pub uncovered : (ℕ → ℕ) → Expr-F Regrouped RegroupedLink → Tree
uncovered place_of (Expr-F.Column place kind) = typed.Column (place_of place) kind
uncovered place_of x = operands_over x

-- where the whole is a key, it is that key's column
abbrev pub covered : (ℕ → ℕ) → Option ℕ → Expr-F Regrouped RegroupedLink → Tree
covered place_of (Some key) x = typed.Column key (kind_of (written x))
covered place_of None x = uncovered place_of x

abbrev pub regrouped_step : List Tree → (ℕ → ℕ) → Expr-F Regrouped RegroupedLink → Regrouped
regrouped_step keys place_of x = record { tree = written x; over = covered place_of (key_from 0 keys (written x)) x }

abbrev pub regrouped_link_step : Link-F Regrouped RegroupedLink → RegroupedLink
regrouped_link_step l = record {
  tree = roll-Link (record { sign = l.sign; right = l.right.tree; kind = l.kind });
  over = roll-Link (record { sign = l.sign; right = l.right.over; kind = l.kind });
}

-- an item, or HAVING, over the row of a group
abbrev pub over_group : List Tree → (ℕ → ℕ) → Tree → Tree
over_group keys place_of tree = (fold-Expr Regrouped RegroupedLink (regrouped_step keys place_of) regrouped_link_step tree).over

abbrev pub list_over : List Tree → (ℕ → ℕ) → List Tree → List Tree
list_over keys place_of list = map (over_group keys place_of) list

abbrev pub link_over : List Tree → (ℕ → ℕ) → Link → Link
link_over keys place_of link = record { sign = link.sign; right = over_group keys place_of link.right; kind = link.kind }

abbrev pub links_over : List Tree → (ℕ → ℕ) → List Link → List Link
links_over keys place_of links = map (link_over keys place_of) links

abbrev pub with_tree : List Tree → Tree → List Tree
with_tree list tree = list ++ tree ∷ []

abbrev pub with_link : ChainSign → SqlType → List Link → Tree → List Link
with_link sign kind links right = links ++ record { sign = sign; right = right; kind = kind } ∷ []
