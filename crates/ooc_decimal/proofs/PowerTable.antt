-- A table of powers of ten.
use Rattle.std.proofs.Common.{◌≡◌, ℕ, suc, ◌+◌, ◌^◌, ◌<◌, ◌≤◌, Bool, true, ◌&&◌, List, [], ◌∷◌, length, get_or, eqb, ◌∙◌, ap, arith}
use Rattle.std.proofs.lemmas.Bool.Decides.{nat_tests}
use Prim.Native.Nat.{zero}
use Rattle.ooc_decimal.proofs.Point.{unit_above}

-- the list holds the powers from this one on
abbrev pub are_powers : ℕ → List ℕ → Bool
are_powers from [] = true
are_powers from (x ∷ xs) = eqb x (10 ^ from) && are_powers (from + 1) xs

first : (x y : ℕ) (rest : Bool) → (eqb x y && rest) ≡ true → x ≡ y
first x y rest e = grind (arith, nat_tests)

others : (x y : ℕ) (rest : Bool) → (eqb x y && rest) ≡ true → rest ≡ true
others x y rest e = grind (arith, nat_tests)

at : (from : ℕ) (xs : List ℕ) → are_powers from xs ≡ true → (k d : ℕ) → k < length xs → get_or xs k d ≡ 10 ^ (from + k)
at from [] e k d inside = absurd (omega arith)
at from (x ∷ xs) e zero d inside = first x (10 ^ from) (are_powers (from + 1) xs) e ∙ ap (λ n. 10 ^ n) (omega arith)
at from (x ∷ xs) e (suc k) d inside = at (from + 1) xs (others x (10 ^ from) (are_powers (from + 1) xs) e) k d (omega arith) ∙ ap (λ n. 10 ^ n) (omega arith)

pub in_table : (xs : List ℕ) (k d : ℕ) → are_powers 0 xs ≡ true → length xs ≡ 39 → k ≤ 38 → get_or xs k d ≡ 10 ^ k
in_table xs k d powers many few = at 0 xs powers k d (omega arith) ∙ ap (λ n. 10 ^ n) (omega arith)

pub some_in_table : (xs : List ℕ) (k d : ℕ) → are_powers 0 xs ≡ true → length xs ≡ 39 → k ≤ 38 → 0 < get_or xs k d
some_in_table xs k d powers many few = omega (arith, in_table xs k d powers many few, unit_above k)
