-- A number without the zeros at the end of its fraction: its value is the same, and it is the only one of its value.
use Rattle.std.proofs.Common.{◌≡◌, ℕ, suc, ◌+◌, ◌*◌, ◌/◌, ◌%◌, ◌-◌, ◌^◌, ◌<◌, ◌≤◌, ℤ, pos, negsuc, Bool, true, false, Option, Some, None, refl, sym, ap, ap₂, ◌∙◌, arith, subst, Ordering, Less, Equal, Greater, int_cmp, SFits}
use Rattle.std.specs.Prelude.{◌*ℤ◌, ◌+ℤ◌, neg_ℤ, int_div, int_rem, pos}
use Rattle.std.specs.Int.{w128}
use Rattle.std.specs.Ordering.{int_eq, ordering_reverse}
use Rattle.std.specs.Option.{option_map_or}
use Rattle.std.proofs.Math.Nat.{pow-suc, mul-mod_left, mul-div_cancel}
use Rattle.std.proofs.lemmas.Int.{quot-rem, quot_fits, ints}
use Rattle.std.proofs.lemmas.Cmp.{int_cmp_total, tied_itself}
use Rattle.std.proofs.lemmas.Map.Lookups.{exact_signed}
use Rattle.std.proofs.lemmas.Nat.{pow-add}
use Rattle.std.proofs.lemmas.Bool.Decides.{Decides-int_eq}
use Rattle.std.proofs.lemmas.Bool.{ltb-true, ltb-false}
use Rattle.std.proofs.Common.{cond, ltb}
use Prim.Native.Nat.{zero}
use Rattle.ooc_types.specs.Canonical.{tenth, reduce}
use Rattle.ooc_types.specs.Order.{in_units}
use Rattle.ooc_types.proofs.Scaled.{times_times, aligned}

plus_zero : (z : ℤ) → z +ℤ pos 0 ≡ z
plus_zero z = omega (arith, ints)

-- a number whose last digit is zero is ten times its tenth
tenth_times : (d f : ℤ) → tenth d ≡ Some f → d ≡ f *ℤ pos 10
tenth_times d f e = go (int_eq (int_rem d (pos 10)) (pos 0)) refl e
  where
    go : (t : Bool) → int_eq (int_rem d (pos 10)) (pos 0) ≡ t → cond t (Some (int_div d (pos 10))) None ≡ Some f → d ≡ f *ℤ pos 10
    go true is e =
        let none : int_rem d (pos 10) ≡ pos 0 = (Decides-int_eq (int_rem d (pos 10)) (pos 0)).0 is in
        let quot : int_div d (pos 10) ≡ f = cc in
        let all = quot-rem d (pos 10) in
        sym all ∙ ap (λ r. int_div d (pos 10) *ℤ pos 10 +ℤ r) none ∙ plus_zero (int_div d (pos 10) *ℤ pos 10) ∙ ap (λ q. q *ℤ pos 10) quot
    go false is e = cc

nine : (n : ℕ) → suc n * 10 ≡ suc (n * 10 + 9)
nine n = omega arith

tenth-fits : (d f : ℤ) → tenth d ≡ Some f → SFits w128 d → SFits w128 f
tenth-fits d f e fits = go f (subst (λ (z : ℤ). SFits w128 z) (tenth_times d f e) fits)
  where
    go : (f : ℤ) → SFits w128 (f *ℤ pos 10) → SFits w128 f
    go (pos n) h = let below : n * 10 < 2 ^ 127 = h.sfits in record { sfits = omega arith }
    go (negsuc n) h =
        let moved : SFits w128 (negsuc (n * 10 + 9)) = subst (λ (k : ℕ). SFits w128 (neg_ℤ (pos k))) (nine n) h in
        let below : n * 10 + 9 < 2 ^ 127 = moved.sfits in
        record { sfits = omega arith }

times_one : (d : ℤ) → d *ℤ pos 1 ≡ d
times_one d = omega (arith, ints)

tenth_below : (m q : ℕ) → suc m % 10 ≡ 0 → suc m / 10 ≡ suc q → tenth (negsuc m) ≡ Some (negsuc q)
tenth_below m q e f = rw (e, f) refl

-- ten times a number has it as its tenth
times_tenth : (f : ℤ) → tenth (f *ℤ pos 10) ≡ Some f
times_tenth (pos n) = rw (mul-mod_left, mul-div_cancel n {n = 10} (omega arith)) refl
times_tenth (negsuc n) = ap (λ k. tenth (neg_ℤ (pos k))) (nine n) ∙ tenth_below (n * 10 + 9) n (omega arith) (omega arith)

tenfold : (f : ℤ) (s : ℕ) → s < 255 → in_units (f *ℤ pos 10) (suc s) ≡ in_units f s
unfolding in_units
tenfold f s h = times_times f 10 (10 ^ (255 - suc s)) ∙ ap (λ k. f *ℤ pos k) (sym (pow-add 10 1 (255 - suc s)) ∙ ap (λ k. 10 ^ k) (omega arith))

pub reduce-units : (d : ℤ) (s : ℕ) → s < 256 → in_units (reduce d s).0 (reduce d s).1 ≡ in_units d s
reduce-units d zero h = refl
reduce-units d (suc s) h = go (λ f. reduce-units f s (omega arith)) (tenth d) refl
  where
    go : ((f : ℤ) → in_units (reduce f s).0 (reduce f s).1 ≡ in_units f s) → (t : Option ℤ) → tenth d ≡ t → in_units (reduce d (suc s)).0 (reduce d (suc s)).1 ≡ in_units d (suc s)
    go more None e = ap (λ t. let r = option_map_or (λ fewer. reduce fewer s) t (d, suc s) in in_units r.0 r.1) e
    go more (Some f) e =
        ap (λ t. let r = option_map_or (λ fewer. reduce fewer s) t (d, suc s) in in_units r.0 r.1) e
        ∙ more f ∙ sym (ap (λ x. in_units x (suc s)) (tenth_times d f e) ∙ tenfold f s (omega arith))

pub reduce-scale : (d : ℤ) (s : ℕ) → (reduce d s).1 ≤ s
reduce-scale d zero = omega arith
reduce-scale d (suc s) = go (λ f. reduce-scale f s) (tenth d)
  where
    go : ((f : ℤ) → (reduce f s).1 ≤ s) → (t : Option ℤ) → (option_map_or (λ fewer. reduce fewer s) t (d, suc s)).1 ≤ suc s
    go more None = omega arith
    go more (Some f) = let here = more f in omega arith

pub reduce-fits : (d : ℤ) (s : ℕ) → SFits w128 d → SFits w128 (reduce d s).0
reduce-fits d zero fits = fits
reduce-fits d (suc s) fits = go (λ f. reduce-fits f s) (tenth d) refl
  where
    go : ((f : ℤ) → SFits w128 f → SFits w128 (reduce f s).0) → (t : Option ℤ) → tenth d ≡ t → SFits w128 (option_map_or (λ fewer. reduce fewer s) t (d, suc s)).0
    go more None e = fits
    go more (Some f) e = more f (tenth-fits d f e fits)

-- nothing is left to drop
pub reduce-whole : (d : ℤ) (s k : ℕ) → (reduce d s).1 ≡ suc k → tenth (reduce d s).0 ≡ None
reduce-whole d zero k e = absurd (omega arith)
reduce-whole d (suc s) k e = go (λ f. reduce-whole f s k) (tenth d) refl e
  where
    go : ((f : ℤ) → (reduce f s).1 ≡ suc k → tenth (reduce f s).0 ≡ None) → (t : Option ℤ) → tenth d ≡ t → (option_map_or (λ fewer. reduce fewer s) t (d, suc s)).1 ≡ suc k → tenth (option_map_or (λ fewer. reduce fewer s) t (d, suc s)).0 ≡ None
    go more None is e = is
    go more (Some f) is e = more f e

-- of two numbers of one value the one with more places has a zero to drop, if it has more
parts_same : (d e : ℤ) (s t : ℕ) → s ≤ t → t < 256 → ((k : ℕ) → t ≡ suc k → tenth e ≡ None) → int_cmp (in_units d s) (in_units e t) ≡ Equal → (d ≡ e) × (s ≡ t)
unfolding in_units
parts_same d e s t h small whole same =
    let level : d *ℤ pos (10 ^ (t - s)) ≡ e = exact_signed (d *ℤ pos (10 ^ (t - s))) e (aligned d e s t h small ∙ same) in
    go (t - s) refl level
  where
    go : (n : ℕ) → t - s ≡ n → d *ℤ pos (10 ^ n) ≡ e → (d ≡ e) × (s ≡ t)
    go zero is level = (sym (times_one d) ∙ level, omega arith)
    go (suc n) is level =
        let more : e ≡ d *ℤ pos (10 ^ n) *ℤ pos 10 = sym level ∙ ap (λ k. d *ℤ pos k) (pow-suc 10 n) ∙ sym (times_times d (10 ^ n) 10) in
        let drops : tenth e ≡ Some (d *ℤ pos (10 ^ n)) = ap tenth more ∙ times_tenth (d *ℤ pos (10 ^ n)) in
        let none : tenth e ≡ None = whole (t - 1) (omega arith) in
        absurd (apart (sym none ∙ drops))
      where
        apart : {A : Type 0} {a : A} → None ≡ Some a → ⊥
        apart e = cc

-- equal values reduce to the same digits and scale
pub same-reduce : (d e : ℤ) (s t : ℕ) → s < 256 → t < 256 → int_cmp (in_units d s) (in_units e t) ≡ Equal → reduce d s ≡ reduce e t
same-reduce d e s t p q same =
    let s_small : (reduce d s).1 < 256 = omega (arith, reduce-scale d s) in
    let t_small : (reduce e t).1 < 256 = omega (arith, reduce-scale e t) in
    let now : int_cmp (in_units (reduce d s).0 (reduce d s).1) (in_units (reduce e t).0 (reduce e t).1) ≡ Equal = ap₂ int_cmp (reduce-units d s p) (reduce-units e t q) ∙ same in
    go (ltb (reduce e t).1 (reduce d s).1) refl s_small t_small now
  where
    pair : (x y : ℤ × ℕ) → (x.0 ≡ y.0) × (x.1 ≡ y.1) → x ≡ y
    pair x y e = λ i. (e.0 i, e.1 i)

    go : (b : Bool) → ltb (reduce e t).1 (reduce d s).1 ≡ b → (reduce d s).1 < 256 → (reduce e t).1 < 256 → int_cmp (in_units (reduce d s).0 (reduce d s).1) (in_units (reduce e t).0 (reduce e t).1) ≡ Equal → reduce d s ≡ reduce e t
    go false is p q same = pair (reduce d s) (reduce e t) (parts_same (reduce d s).0 (reduce e t).0 (reduce d s).1 (reduce e t).1 (ltb-false (reduce e t).1 (reduce d s).1 is) q (reduce-whole e t) same)
    go true is p q same =
        let back : int_cmp (in_units (reduce e t).0 (reduce e t).1) (in_units (reduce d s).0 (reduce d s).1) ≡ Equal =
        int_cmp_total.antisymm (in_units (reduce e t).0 (reduce e t).1) (in_units (reduce d s).0 (reduce d s).1) ∙ ap ordering_reverse same in
        sym (pair (reduce e t) (reduce d s) (parts_same (reduce e t).0 (reduce d s).0 (reduce e t).1 (reduce d s).1 (omega (arith, ltb-true (reduce e t).1 (reduce d s).1 is)) p (reduce-whole d s) back))

-- and the digits and the scale tell the value
pub reduce-same : (d e : ℤ) (s t : ℕ) → s < 256 → t < 256 → reduce d s ≡ reduce e t → int_cmp (in_units d s) (in_units e t) ≡ Equal
reduce-same d e s t p q same =
    let units : in_units d s ≡ in_units e t = sym (reduce-units d s p) ∙ ap (λ r. in_units r.0 r.1) same ∙ reduce-units e t q in
    ap (λ z. int_cmp z (in_units e t)) units ∙ tied_itself int_cmp_total (in_units e t)
