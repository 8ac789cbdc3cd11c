-- A search goes on by one place.
use Rattle.std.proofs.Common.{◌≡◌, ℕ, Bool, true, false, zero, suc, ◌+◌, ◌<◌, ◌≤◌, ◌==◌, cond, List, [], ◌∷◌, ◌++◌, length, get_or, take, drop, arith, ap, sym, ◌∙◌, refl}
use Rattle.std.proofs.lemmas.List.{take-append-drop, drop_more}
use Rattle.std.proofs.Math.Seq.{take-suc}
use Rattle.std.proofs.lemmas.Bool.{eqb-true}
use Rattle.number_bags.specs.Bags.{one_of, times}
use Rattle.number_bags.proofs.Bags.{one_other, times_both}
use Rattle.salt_words.specs.Runs.{upto_empty, round, run_at, next_of}

pub times_round : (words : List ℕ) (place y : ℕ) → times (round place words) y ≡ times words y
times_round words place y =
    let cut : times (take place words ++ drop place words) y ≡ times words y = ap (λ ws. times ws y) (take-append-drop place words) in
    omega (arith, cut, times_both (drop place words) (take place words) y, times_both (take place words) (drop place words) y)

-- a word that isn't 0 is no empty place
pub not_empty : (x : ℕ) → one_of (suc x) 0 ≡ 0
not_empty x = one_other (suc x) 0 (λ e. absurd (omega (arith, e)))

pub upto_one_more : (xs : List ℕ) (w : ℕ) → 1 ≤ times xs 0 → upto_empty (xs ++ w ∷ []) ≡ upto_empty xs
upto_one_more [] w hole = absurd (omega (arith, hole))
upto_one_more (zero ∷ xs) w hole = refl
upto_one_more (suc x ∷ xs) w hole = ap (λ ws. suc x ∷ ws) (upto_one_more xs w (omega (arith, hole, not_empty x)))

pub append-none : (xs : List ℕ) → xs ++ [] ≡ xs
append-none [] = refl
append-none (x ∷ xs) = ap (λ ws. x ∷ ws) (append-none xs)

pub append-append : (xs ys zs : List ℕ) → (xs ++ ys) ++ zs ≡ xs ++ (ys ++ zs)
append-append [] ys zs = refl
append-append (x ∷ xs) ys zs = ap (λ ws. x ∷ ws) (append-append xs ys zs)

pub drop_all : (xs : List ℕ) → drop (length xs) xs ≡ []
drop_all [] = refl
drop_all (x ∷ xs) = drop_all xs

pub take_all : (xs : List ℕ) → take (length xs) xs ≡ xs
take_all [] = refl
take_all (x ∷ xs) = ap (λ ws. x ∷ ws) (take_all xs)

pub run_round : (words : List ℕ) → run_at words (length words) ≡ run_at words 0
unfolding run_at
run_round words = ap upto_empty
    (ap (λ ws. ws ++ take (length words) words) (drop_all words) ∙ take_all words ∙ sym (append-none words))

pub run_behind : (words : List ℕ) (place w : ℕ) → place < length words → 1 ≤ times words 0 → get_or words place 0 ≡ suc w → run_at words place ≡ suc w ∷ run_at words (place + 1)
unfolding run_at
run_behind words place w inside hole is =
    let rest = drop (place + 1) words ++ take place words in
    let head : drop place words ≡ suc w ∷ drop (place + 1) words = drop_more words place 0 inside ∙ ap (λ x. x ∷ drop (place + 1) words) is in
    let first : round place words ≡ suc w ∷ rest = ap (λ ws. ws ++ take place words) head in
    let more : take (place + 1) words ≡ take place words ++ suc w ∷ [] = ap (λ n. take n words) {x = place + 1} {y = suc place} (omega arith) ∙ take-suc words place 0 inside ∙ ap (λ x. take place words ++ x ∷ []) is in
    let second : round (place + 1) words ≡ rest ++ suc w ∷ [] = ap (λ ws. drop (place + 1) words ++ ws) more ∙ sym (append-append (drop (place + 1) words) (take place words) (suc w ∷ [])) in
    let counted : times (suc w ∷ rest) 0 ≡ times words 0 = ap (λ ws. times ws 0) (sym first) ∙ times_round words place 0 in
    let left : 1 ≤ times rest 0 = omega (arith, counted, hole, not_empty w) in
    ap upto_empty first ∙ ap (λ ws. suc w ∷ ws) (sym (upto_one_more rest (suc w) left) ∙ ap upto_empty (sym second))

pub run_empty : (words : List ℕ) (place : ℕ) → place < length words → get_or words place 0 ≡ 0 → run_at words place ≡ []
unfolding run_at
run_empty words place inside is =
    ap upto_empty (ap (λ ws. ws ++ take place words) (drop_more words place 0 inside ∙ ap (λ x. x ∷ drop (place + 1) words) is))

run_next_by : (words : List ℕ) (place : ℕ) (b : Bool) → (place + 1 == length words) ≡ b → run_at words (place + 1) ≡ run_at words (cond b 0 (place + 1))
run_next_by words place true last = ap (run_at words) (eqb-true (place + 1) (length words) last) ∙ run_round words
run_next_by words place false last = refl

-- a search goes on to the next place
pub run_step : (words : List ℕ) (place : ℕ) → place < length words → 1 ≤ times words 0 → 1 ≤ get_or words place 0 → run_at words place ≡ get_or words place 0 ∷ run_at words (next_of place (length words))
unfolding next_of
run_step words place inside hole some = step (get_or words place 0) refl some
  where
    step : (w : ℕ) → get_or words place 0 ≡ w → 1 ≤ w → run_at words place ≡ w ∷ run_at words (next_of place (length words))
    step zero is some = absurd (omega (arith, some))
    step (suc w) is some = run_behind words place w inside hole is ∙ ap (λ ws. suc w ∷ ws) (run_next_by words place (place + 1 == length words) refl)
