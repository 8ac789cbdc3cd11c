-- The first rule of a list that doesn't hold.
use Rattle.std.proofs.Common.{◌≡◌, ℕ, zero, suc, ◌+◌, ◌<◌, ◌≤◌, Bool, true, false, cond, List, [], ◌∷◌, ◌++◌, Option, Some, None, refl, sym, subst, inl, inr, ◌∙◌, arith}
use Rattle.std.proofs.lemmas.Bool.{cases_eq}
use Rattle.std.specs.List.{range_with_len, flat_map}
use Rattle.row_image.specs.declared.image.Damage.{Damage}
use Rattle.row_image.specs.Rules.{Rule, damage_of, first_damage}

chosen : (holds : Bool) (rest : Option Damage) (damage : Damage) → cond holds rest (Some damage) ≡ None → (holds ≡ true) × (rest ≡ None)
chosen true rest damage h = (refl, h)
chosen false rest damage h = absurd (let e : ⊥ = cc in e)

-- a list of rules that all hold: its first holds, and so do the others
pub sound_cons : (rule : Rule) (rules : List Rule) → first_damage (rule ∷ rules) ≡ None → (rule.holds ≡ true) × (first_damage rules ≡ None)
sound_cons rule rules h = chosen rule.holds (first_damage rules) (damage_of rule) h

pub cons_sound : (rule : Rule) (rules : List Rule) → rule.holds ≡ true → first_damage rules ≡ None → first_damage (rule ∷ rules) ≡ None
cons_sound rule rules e h = rw e h

pub cons_next : (rule : Rule) (rules : List Rule) → rule.holds ≡ true → first_damage (rule ∷ rules) ≡ first_damage rules
cons_next rule rules e = rw e

pub cons_damaged : (rule : Rule) (rules : List Rule) → rule.holds ≡ false → first_damage (rule ∷ rules) ≡ Some (damage_of rule)
cons_damaged rule rules e = rw e

pub append_next : (xs ys : List Rule) → first_damage xs ≡ None → first_damage (xs ++ ys) ≡ first_damage ys
append_next [] ys h = refl
append_next (x ∷ xs) ys h = let both = sound_cons x xs h in cons_next x (xs ++ ys) both.0 ∙ append_next xs ys both.1

later : (holds : Bool) (rest more : Option Damage) (mine damage : Damage) → (rest ≡ Some damage → more ≡ Some damage) → cond holds rest (Some mine) ≡ Some damage → cond holds more (Some mine) ≡ Some damage
later true rest more mine damage go h = go h
later false rest more mine damage go h = h

pub append_damaged : (xs ys : List Rule) (damage : Damage) → first_damage xs ≡ Some damage → first_damage (xs ++ ys) ≡ Some damage
append_damaged [] ys damage h = absurd (let e : ⊥ = cc in e)
append_damaged (x ∷ xs) ys damage h = later x.holds (first_damage xs) (first_damage (xs ++ ys)) (damage_of x) damage (append_damaged xs ys damage) h

pub sound_front : (xs ys : List Rule) → first_damage (xs ++ ys) ≡ None → first_damage xs ≡ None
sound_front [] ys h = refl
sound_front (x ∷ xs) ys h = let both = sound_cons x (xs ++ ys) h in cons_sound x xs both.0 (sound_front xs ys both.1)

pub sound_back : (xs ys : List Rule) → first_damage (xs ++ ys) ≡ None → first_damage ys ≡ None
sound_back xs ys h = sym (append_next xs ys (sound_front xs ys h)) ∙ h

each_from : (F : ℕ → List Rule) (a n : ℕ) → ((k : ℕ) → a ≤ k → k < a + n → first_damage (F k) ≡ None) → first_damage (flat_map F (range_with_len a n)) ≡ None
each_from F a zero h = refl
each_from F a (suc n) h = append_next (F a) (flat_map F (range_with_len (a + 1) n)) (h a (omega arith) (omega arith)) ∙ each_from F (a + 1) n (λ k low high. h k (omega arith) (omega arith))

at_from : (F : ℕ → List Rule) (a n k : ℕ) → a ≤ k → k < a + n → first_damage (flat_map F (range_with_len a n)) ≡ None → first_damage (F k) ≡ None
at_from F a zero k low high h = absurd (omega arith)
at_from F a (suc n) k low high h =
    elim (cases_eq a k) [
      | inl e ↦ let P : ℕ → Type 0 = λ j. first_damage (F j) ≡ None in subst P e (sound_front (F a) (flat_map F (range_with_len (a + 1) n)) h)
      | inr ne ↦ at_from F (a + 1) n k (omega arith) (omega arith) (sound_back (F a) (flat_map F (range_with_len (a + 1) n)) h)
    ]

damaged_from : (F : ℕ → List Rule) (a n k : ℕ) (damage : Damage) → a ≤ k → k < a + n → ((j : ℕ) → a ≤ j → j < k → first_damage (F j) ≡ None) → first_damage (F k) ≡ Some damage → first_damage (flat_map F (range_with_len a n)) ≡ Some damage
damaged_from F a zero k damage low high h e = absurd (omega arith)
damaged_from F a (suc n) k damage low high h e =
    elim (cases_eq a k) [
      | inl same ↦ let P : ℕ → Type 0 = λ j. first_damage (F j) ≡ Some damage in append_damaged (F a) (flat_map F (range_with_len (a + 1) n)) damage (subst P (sym same) e)
      | inr ne ↦ append_next (F a) (flat_map F (range_with_len (a + 1) n)) (h a (omega arith) (omega arith)) ∙ damaged_from F (a + 1) n k damage (omega arith) (omega arith) (λ j from below. h j (omega arith) below) e
    ]

-- the rules of 0, 1, .. below n all hold
pub each_sound : (F : ℕ → List Rule) (n : ℕ) → ((k : ℕ) → k < n → first_damage (F k) ≡ None) → first_damage (flat_map F (range_with_len 0 n)) ≡ None
each_sound F n h = each_from F 0 n (λ k low high. h k (omega arith))

pub sound_at : (F : ℕ → List Rule) (n k : ℕ) → first_damage (flat_map F (range_with_len 0 n)) ≡ None → k < n → first_damage (F k) ≡ None
sound_at F n k h below = at_from F 0 n k (omega arith) (omega arith) h

-- the first that doesn't hold is one of k's
pub each_damaged : (F : ℕ → List Rule) (n k : ℕ) (damage : Damage) → k < n → ((j : ℕ) → j < k → first_damage (F j) ≡ None) → first_damage (F k) ≡ Some damage → first_damage (flat_map F (range_with_len 0 n)) ≡ Some damage
each_damaged F n k damage below h e = damaged_from F 0 n k damage (omega arith) (omega arith) (λ j low less. h j less) e
