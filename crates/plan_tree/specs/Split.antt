-- The conjuncts of a join: filters of the new source, keys, and a rest.
use Rattle.std.specs.Prelude.{ℕ, ◌+◌, ◌-◌, max, Bool, true, false, ◌&&◌, not, nat_lt, nat_le, if◌then◌else◌, List, [], ◌∷◌, ◌++◌, map, filter, replicate, Option, Some, None, is_some}
use Rattle.std.specs.List.{list_all, filter_map, range_with_len}
use Rattle.sql_expr.specs.declared.tree.CompareSign.{CompareSign}
use Rattle.sql_expr.specs.declared.tree.CompareSign.TheVariants.{Equal, Unequal, Less, AtMost, Greater, AtLeast}
use Rattle.sql_expr.specs.declared.tree.Expr.{Expr}
use Rattle.sql_expr.specs.declared.tree.Link.{Link}
use Rattle.sql_expr.specs.declared.tree.Expr.TheOpen.{Expr-F}
use Rattle.sql_expr.specs.declared.tree.Expr.TheViews.{out-Expr}
use Rattle.sql_expr.specs.Plain.{plainness}
use Rattle.sql_meaning.specs.Found.{Row}
use Rattle.sql_meaning.specs.Moved.{moved}
use Rattle.sql_meaning.specs.Pool.{all_true}
use Rattle.sql_meaning.specs.Stage.{KeyPair, Side, stage_verdict}
use Rattle.sql_meaning.specs.Statements.{condition_of}
use Rattle.plan_tree.specs.declared.parts.Linked.{Linked}
use Rattle.plan_tree.specs.Columns.{columns_of}

abbrev pub is_plain_expr : Expr → Bool
is_plain_expr expr = (plainness expr).condition

abbrev pub top_of : List ℕ → ℕ
top_of [] = 0
top_of (place ∷ places) = max (place + 1) (top_of places)

-- one more than the last column that is named; 0 where none is
abbrev pub top : Expr → ℕ
top expr = top_of (columns_of expr)

-- It names columns, and none before this place, from which the new source's columns stand.
abbrev pub is_own : ℕ → Expr → Bool
is_own at expr = nat_lt 0 (top expr) && list_all (nat_le at) (columns_of expr)

-- ---- equalities of two columns

abbrev pub is_equal : CompareSign → Bool
is_equal Equal = true
is_equal Unequal = false
is_equal Less = false
is_equal AtMost = false
is_equal Greater = false
is_equal AtLeast = false

abbrev pub column_in : Expr-F Expr Link → Option ℕ
column_in (Expr-F.Constant value kind) = None
column_in (Expr-F.Column place kind) = Some place
column_in (Expr-F.Not of) = None
column_in (Expr-F.Minus of kind) = None
column_in (Expr-F.Every list) = None
column_in (Expr-F.Either list) = None
column_in (Expr-F.Chain first links) = None
column_in (Expr-F.Compare sign left right) = None
column_in (Expr-F.IsNull of negated) = None
column_in (Expr-F.Like of pattern negated) = None
column_in (Expr-F.OneOf of list negated) = None
column_in (Expr-F.Between of low high negated) = None

abbrev pub both_columns : Option ℕ → Option ℕ → Option Linked
both_columns None b = None
both_columns (Some a) None = None
both_columns (Some a) (Some b) = Some (record { left = a; right = b })

abbrev pub linked_in : Expr-F Expr Link → Option Linked
linked_in (Expr-F.Constant value kind) = None
linked_in (Expr-F.Column place kind) = None
linked_in (Expr-F.Not of) = None
linked_in (Expr-F.Minus of kind) = None
linked_in (Expr-F.Every list) = None
linked_in (Expr-F.Either list) = None
linked_in (Expr-F.Chain first links) = None
linked_in (Expr-F.Compare sign left right) = if is_equal sign then both_columns (column_in (out-Expr left)) (column_in (out-Expr right)) else None
linked_in (Expr-F.IsNull of negated) = None
linked_in (Expr-F.Like of pattern negated) = None
linked_in (Expr-F.OneOf of list negated) = None
linked_in (Expr-F.Between of low high negated) = None

-- an equality of two columns, and of which
abbrev pub linked_columns : Expr → Option Linked
linked_columns expr = linked_in (out-Expr expr)

-- One column stands before this place and the other from it on: that is a key, with the places in both sides.
abbrev pub key_in : ℕ → Option Linked → Option KeyPair
key_in at None = None
key_in at (Some two) =
    if nat_lt two.left at && nat_le at two.right then Some (record { left = two.left; right = two.right - at })
    else (if nat_lt two.right at && nat_le at two.left then Some (record { left = two.right; right = two.left - at }) else None)

abbrev pub key_of : ℕ → Expr → Option KeyPair
key_of at expr = key_in at (linked_columns expr)

-- ---- plain conjuncts in three

abbrev pub own_conjuncts : ℕ → List Expr → List Expr
own_conjuncts at = filter (is_own at)

abbrev pub key_conjuncts : ℕ → List Expr → List Expr
key_conjuncts at = filter (λ expr. not (is_own at expr) && is_some (key_of at expr))

abbrev pub rest_conjuncts : ℕ → List Expr → List Expr
rest_conjuncts at = filter (λ expr. not (is_own at expr) && not (is_some (key_of at expr)))

-- the columns of the new source by themselves
abbrev pub own_places : ℕ → ℕ → List ℕ
own_places at width = replicate at 0 ++ range_with_len 0 width

-- What a stage of a join has in place of ON: filters over the columns of the new source, keys, and a rest over the
-- columns so far and those of the source.
pub record JoinParts : Type 0 where
  pub filters : List Expr
  pub keys : List KeyPair
  pub rest : List Expr

-- Plain conjuncts are filters, keys or rest; the others stand behind these in the rest.
abbrev pub split : ℕ → ℕ → List Expr → List Expr → JoinParts
split at width plain others = record {
  filters = map (moved (own_places at width)) (own_conjuncts at plain);
  keys = filter_map (key_of at) (key_conjuncts at plain);
  rest = rest_conjuncts at plain ++ others;
}

abbrev pub split_on : ℕ → ℕ → List Expr → JoinParts
split_on at width on = split at width (filter is_plain_expr on) (filter (λ expr. not (is_plain_expr expr)) on)

-- whether filters keep a row of the source
abbrev pub passes : List Expr → Row → Bool
passes filters row = all_true (map condition_of filters) row

-- the stage of a join over the rows of a source
abbrev pub join_side : List Row → ℕ → Bool → JoinParts → Side
join_side rows width pads parts = record {
  rows = filter (passes parts.filters) rows;
  width = width;
  pads = pads;
  verdict = stage_verdict parts.keys (map condition_of parts.rest);
}
