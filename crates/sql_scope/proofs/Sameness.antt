-- The test of equality decides it.
use Rattle.std.proofs.Common.{◌≡◌, ◌↔◌, ℕ, Bool, true, false, ◌&&◌, ◌==◌, IsTrue, refl, sym, ap, ◌∙◌, arith}
use base.Stored.{Gv, gnil, gnum, gcons}
use Rattle.sql_expr.specs.declared.tree.Expr.{Expr}
use Rattle.sql_expr.specs.contracts.tree.Expr.{the_row}
use Rattle.sql_scope.specs.Equality.{same_code, same}

number_self : (n : ℕ) → (n == n) ≡ true
number_self n = grind arith

both_true : (a b : Bool) → a ≡ true → b ≡ true → (a && b) ≡ true
both_true true b p q = q
both_true false b p q = p

first_true : (a b : Bool) → (a && b) ≡ true → a ≡ true
first_true true b p = refl
first_true false b p = p

other_true : (a b : Bool) → (a && b) ≡ true → b ≡ true
other_true true b p = p
other_true false b p = cc

self_same : (x : Gv) → same_code x x ≡ true
self_same gnil = refl
self_same (gnum n) = number_self n
self_same (gcons a b) = both_true (same_code a a) (same_code b b) (self_same a) (self_same b)

numbers_equal : (m n : ℕ) → (m == n) ≡ true → m ≡ n
numbers_equal m n p = grind arith

codes_equal : (x y : Gv) → same_code x y ≡ true → x ≡ y
codes_equal gnil gnil p = refl
codes_equal gnil (gnum n) p = cc
codes_equal gnil (gcons c d) p = cc
codes_equal (gnum m) gnil p = cc
codes_equal (gnum m) (gnum n) p = ap gnum (numbers_equal m n p)
codes_equal (gnum m) (gcons c d) p = cc
codes_equal (gcons a b) gnil p = cc
codes_equal (gcons a b) (gnum n) p = cc
codes_equal (gcons a b) (gcons c d) p =
    ap (λ x. gcons x b) (codes_equal a c (first_true (same_code a c) (same_code b d) p))
    ∙ ap (gcons c) (codes_equal b d (other_true (same_code a c) (same_code b d) p))

pub same-equal : (a b : Expr) → a ≡ b → same a b ≡ true
unfolding same
same-equal a b e = ap (λ x. same_code (the_row.coded.code a) (the_row.coded.code x)) (sym e) ∙ self_same (the_row.coded.code a)

pub equal-same : (a b : Expr) → same a b ≡ true → a ≡ b
unfolding same
equal-same a b p = the_row.coded.inj a b (codes_equal (the_row.coded.code a) (the_row.coded.code b) p)

-- a test that is true exactly where the trees are equal is this one
false_same : (s : Bool) (A : Type 0) → (A → false ≡ true) → (s ≡ true → A) → false ≡ s
false_same true A h found = h (found refl)
false_same false A h found = refl

pub test-same : (test : Bool) (a b : Expr) → (IsTrue test ↔ (a ≡ b)) → test ≡ same a b
test-same true a b h = sym (same-equal a b (h.0 refl))
test-same false a b h = false_same (same a b) (a ≡ b) h.1 (equal-same a b)
