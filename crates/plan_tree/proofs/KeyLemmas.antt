-- Keys say what the equalities of two columns say.
use Rattle.std.proofs.Common.{◌≡◌, ℕ, ◌-◌, ◌<◌, ◌≤◌, Bool, true, false, cond, ◌&&◌, List, [], ◌∷◌, ◌++◌, map, length, refl, sym, ap, ap₂, ◌∙◌, arith, Option, Some, None, Ok, Ordering, Less, Equal, Greater}
use Rattle.std.specs.Prelude.{nat_lt, nat_le, is_some, ◌||◌}
use Rattle.std.specs.List.{AllByRecursion, cons_option, filter_map}
use Rattle.std.specs.Ordering.{is_eq, ordering_reverse}
use Rattle.std.proofs.lemmas.Bool.Decides.{nat_tests}
use Rattle.ooc_types.specs.declared.value.Value.{Value}
use Rattle.ooc_types.specs.declared.value.Value.TheVariants.{Null, Truth}
use Rattle.ooc_types.specs.Order.{value_cmp}
use Rattle.ooc_types.proofs.ValueOrder.{value_cmp_total}
use Rattle.sql_expr.specs.declared.tree.CompareSign.{CompareSign}
use Rattle.sql_expr.specs.declared.tree.CompareSign.TheVariants as sign
use Rattle.sql_expr.specs.declared.tree.Expr.{Expr}
use Rattle.sql_expr.specs.declared.tree.Link.{Link}
use Rattle.sql_expr.specs.declared.tree.Expr.TheOpen.{Expr-F}
use Rattle.sql_expr.specs.declared.tree.Expr.TheViews.{out-Expr}
use Rattle.sql_expr.specs.Comparison.{compared, is_null}
use Rattle.sql_expr.specs.Logic.{truth_in}
use Rattle.sql_expr.specs.Meaning.{value_of, comparison}
use Rattle.sql_expr.proofs.Nodes.{value_out}
use Rattle.sql_meaning.specs.Found.{Row}
use Rattle.sql_meaning.specs.Ordered.{value_at}
use Rattle.sql_meaning.specs.Pool.{all_true}
use Rattle.sql_meaning.specs.Stage.{KeyPair, is_yes, is_true, keys_meet}
use Rattle.sql_meaning.specs.Statements.{condition_of}
use Rattle.plan_tree.specs.declared.parts.Linked.{Linked}
use Rattle.plan_tree.specs.Split.{column_in, both_columns, linked_in, linked_columns, key_in, key_of}
use Rattle.plan_tree.proofs.SplitLemmas.{value-front, value-back}

-- ---- equality is the same in both directions

or-turn : (a b : Bool) → (a || b) ≡ (b || a)
or-turn true true = refl
or-turn true false = refl
or-turn false true = refl
or-turn false false = refl

eq-turn : (o : Ordering) → is_eq (ordering_reverse o) ≡ is_eq o
eq-turn Less = refl
eq-turn Equal = refl
eq-turn Greater = refl

pub equal-turn : (v w : Value) → compared sign.Equal v w ≡ compared sign.Equal w v
equal-turn v w = ap₂ (λ null equal. cond null Null (Truth equal)) (or-turn (is_null v) (is_null w)) (ap is_eq (value_cmp_total.antisymm v w) ∙ eq-turn (value_cmp w v))

-- ---- the value of an equality of two columns

module _ (row : Row) where
  column-value : (e : Expr) (place : ℕ) → column_in (out-Expr e) ≡ Some place → value_of row e ≡ Ok (value_at place row)
  column-value e place is = go (out-Expr e) refl is
    where
      go : (x : Expr-F Expr Link) → out-Expr e ≡ x → column_in x ≡ Some place → value_of row e ≡ Ok (value_at place row)
      go (Expr-F.Column p kind) out h = let same : p ≡ place = cc in value_out row e (Expr-F.Column p kind) out ∙ ap (λ q. Ok (value_at q row)) same
      go (Expr-F.Constant value kind) out h = cc
      go (Expr-F.Not of) out h = cc
      go (Expr-F.Minus of kind) out h = cc
      go (Expr-F.Every list) out h = cc
      go (Expr-F.Either list) out h = cc
      go (Expr-F.Chain first links) out h = cc
      go (Expr-F.Compare s left right) out h = cc
      go (Expr-F.IsNull of negated) out h = cc
      go (Expr-F.Like of pattern negated) out h = cc
      go (Expr-F.OneOf of list negated) out h = cc
      go (Expr-F.Between of low high negated) out h = cc

  both-columns : (x y : Option ℕ) (two : Linked) → both_columns x y ≡ Some two → (x ≡ Some two.left) × (y ≡ Some two.right)
  both-columns None y two h = cc
  both-columns (Some a) None two h = cc
  both-columns (Some a) (Some b) two h = let e : record { left = a; right = b } ≡ two = cc in (ap (λ (t : Linked). Some t.left) e, ap (λ (t : Linked). Some t.right) e)

  equality-value : (e left right : Expr) (two : Linked) → out-Expr e ≡ Expr-F.Compare sign.Equal left right → both_columns (column_in (out-Expr left)) (column_in (out-Expr right)) ≡ Some two
      → value_of row e ≡ Ok (compared sign.Equal (value_at two.left row) (value_at two.right row))
  equality-value e left right two out h =
      let both = both-columns (column_in (out-Expr left)) (column_in (out-Expr right)) two h in
      value_out row e (Expr-F.Compare sign.Equal left right) out ∙ ap₂ (comparison sign.Equal) (column-value left two.left both.0) (column-value right two.right both.1)

  pub linked-value : (e : Expr) (two : Linked) → linked_columns e ≡ Some two → value_of row e ≡ Ok (compared sign.Equal (value_at two.left row) (value_at two.right row))
  linked-value e two is = go (out-Expr e) refl is
    where
      compare : (s : CompareSign) (left right : Expr) → out-Expr e ≡ Expr-F.Compare s left right → linked_in (Expr-F.Compare s left right) ≡ Some two
          → value_of row e ≡ Ok (compared sign.Equal (value_at two.left row) (value_at two.right row))
      compare sign.Equal left right out h = equality-value e left right two out h
      compare sign.Unequal left right out h = cc
      compare sign.Less left right out h = cc
      compare sign.AtMost left right out h = cc
      compare sign.Greater left right out h = cc
      compare sign.AtLeast left right out h = cc

      go : (x : Expr-F Expr Link) → out-Expr e ≡ x → linked_in x ≡ Some two → value_of row e ≡ Ok (compared sign.Equal (value_at two.left row) (value_at two.right row))
      go (Expr-F.Compare s left right) out h = compare s left right out h
      go (Expr-F.Column p kind) out h = cc
      go (Expr-F.Constant value kind) out h = cc
      go (Expr-F.Not of) out h = cc
      go (Expr-F.Minus of kind) out h = cc
      go (Expr-F.Every list) out h = cc
      go (Expr-F.Either list) out h = cc
      go (Expr-F.Chain first links) out h = cc
      go (Expr-F.IsNull of negated) out h = cc
      go (Expr-F.Like of pattern negated) out h = cc
      go (Expr-F.OneOf of list negated) out h = cc
      go (Expr-F.Between of low high negated) out h = cc

-- ---- keys

lt-of : (a b : ℕ) → nat_lt a b ≡ true → a < b
lt-of a b e = grind (arith, nat_tests)

le-of : (a b : ℕ) → nat_le a b ≡ true → a ≤ b
le-of a b e = grind (arith, nat_tests)

and-left : (a b : Bool) → (a && b) ≡ true → a ≡ true
and-left true b e = refl
and-left false b e = cc

and-right : (a b : Bool) → (a && b) ≡ true → b ≡ true
and-right true b e = e
and-right false b e = cc

module _ (l r : Row) (at : ℕ) (long : length l ≡ at) where
  straight : (two : Linked) → (nat_lt two.left at && nat_le at two.right) ≡ true
      → compared sign.Equal (value_at two.left l) (value_at (two.right - at) r) ≡ compared sign.Equal (value_at two.left (l ++ r)) (value_at two.right (l ++ r))
  straight two e =
      let before : two.left < at = lt-of two.left at (and-left (nat_lt two.left at) (nat_le at two.right) e) in
      let behind : at ≤ two.right = le-of at two.right (and-right (nat_lt two.left at) (nat_le at two.right) e) in
      ap₂ (compared sign.Equal) (sym (value-front l r two.left (omega arith)))
      (ap (λ n. value_at (two.right - n) r) (sym long) ∙ sym (value-back l r two.right (omega arith)))

  key-compares : (two : Linked) (key : KeyPair) → key_in at (Some two) ≡ Some key
      → compared sign.Equal (value_at key.left l) (value_at key.right r) ≡ compared sign.Equal (value_at two.left (l ++ r)) (value_at two.right (l ++ r))
  key-compares two key = first (nat_lt two.left at && nat_le at two.right) refl
    where
      second : (b : Bool) → (nat_lt two.right at && nat_le at two.left) ≡ b
          → cond {A = Option KeyPair} b (Some (record { left = two.right; right = two.left - at })) None ≡ Some key
          → compared sign.Equal (value_at key.left l) (value_at key.right r) ≡ compared sign.Equal (value_at two.left (l ++ r)) (value_at two.right (l ++ r))
      second true e h =
          let is : record { left = two.right; right = two.left - at } ≡ key = cc in
          ap (λ (k : KeyPair). compared sign.Equal (value_at k.left l) (value_at k.right r)) (sym is)
          ∙ straight (record { left = two.right; right = two.left }) e ∙ equal-turn (value_at two.right (l ++ r)) (value_at two.left (l ++ r))
      second false e h = cc

      first : (b : Bool) → (nat_lt two.left at && nat_le at two.right) ≡ b
          → cond {A = Option KeyPair} b (Some (record { left = two.left; right = two.right - at })) (cond (nat_lt two.right at && nat_le at two.left) (Some (record { left = two.right; right = two.left - at })) None) ≡ Some key
          → compared sign.Equal (value_at key.left l) (value_at key.right r) ≡ compared sign.Equal (value_at two.left (l ++ r)) (value_at two.right (l ++ r))
      first true e h =
          let is : record { left = two.left; right = two.right - at } ≡ key = cc in
          ap (λ (k : KeyPair). compared sign.Equal (value_at k.left l) (value_at k.right r)) (sym is) ∙ straight two e
      first false e h = second (nat_lt two.right at && nat_le at two.left) refl h

  key-says : (e : Expr) (key : KeyPair) → key_of at e ≡ Some key
      → is_yes (truth_in (compared sign.Equal (value_at key.left l) (value_at key.right r))) ≡ is_true (value_of (l ++ r) e)
  key-says e key = go (linked_columns e) refl
    where
      go : (x : Option Linked) → linked_columns e ≡ x → key_in at x ≡ Some key
          → is_yes (truth_in (compared sign.Equal (value_at key.left l) (value_at key.right r))) ≡ is_true (value_of (l ++ r) e)
      go None out h = cc
      go (Some two) out h = ap (λ v. is_yes (truth_in v)) (key-compares two key h) ∙ sym (ap is_true (linked-value (l ++ r) e two out))

  pub keys-say : (es : List Expr) → AllByRecursion (λ e. is_some (key_of at e) ≡ true) es
      → keys_meet (filter_map (key_of at) es) l r ≡ all_true (map condition_of es) (l ++ r)
  keys-say [] all = refl
  keys-say (e ∷ es) all = go (key_of at e) refl all.0 (keys-say es all.1)
    where
      go : (x : Option KeyPair) → key_of at e ≡ x → is_some (key_of at e) ≡ true → keys_meet (filter_map (key_of at) es) l r ≡ all_true (map condition_of es) (l ++ r)
          → keys_meet (filter_map (key_of at) (e ∷ es)) l r ≡ all_true (map condition_of (e ∷ es)) (l ++ r)
      go None out h rest = let no_key : is_some (key_of at e) ≡ false = ap is_some out in cc
      go (Some key) out h rest =
          ap (λ x. keys_meet (cons_option x (filter_map (key_of at) es)) l r) out
          ∙ ap₂ ◌&&◌ (key-says e key out) rest
