-- A table that grows keeps what searches meet.
use Rattle.std.proofs.Common.{◌≡◌, ℕ, zero, suc, ◌+◌, ◌<◌, ◌≤◌, ◌==◌, Bool, cond, List, [], ◌∷◌, ◌++◌, length, get_or, set, take, drop, arith, ap, sym, ◌∙◌, refl, subst}
use Rattle.std.specs.List.{count_by}
use Rattle.std.proofs.lemmas.List.Sums.{sum_by-append}
use Rattle.std.proofs.Common.{ne_eqb, eq-eqb}
use Rattle.std.proofs.lemmas.List.{get_or-set_same, length-set}
use Rattle.number_bags.specs.Bags.{one_of, times}
use Rattle.number_bags.proofs.Bags.{one_same, one_other}
use Rattle.salt_words.specs.Runs.{upto_empty, round, run_at, next_of}
use Rattle.salt_words.specs.Tables.{Grows, LeadsTo, IsPut}
use Rattle.salt_words.proofs.Rounds.{run_step}

pub grows_same : (xs : List ℕ) → Grows xs xs
grows_same [] = tt
grows_same (x ∷ xs) = (λ _. refl, grows_same xs)

grows_both : (xs ys us vs : List ℕ) → Grows xs ys → Grows us vs → Grows (xs ++ us) (ys ++ vs)
grows_both [] [] us vs g h = h
grows_both [] (y ∷ ys) us vs g h = absurd g
grows_both (x ∷ xs) [] us vs g h = absurd g
grows_both (x ∷ xs) (y ∷ ys) us vs g h = (g.0, grows_both xs ys us vs g.1 h)

grows_take : (n : ℕ) (xs ys : List ℕ) → Grows xs ys → Grows (take n xs) (take n ys)
grows_take zero xs ys g = tt
grows_take (suc n) [] [] g = tt
grows_take (suc n) [] (y ∷ ys) g = absurd g
grows_take (suc n) (x ∷ xs) [] g = absurd g
grows_take (suc n) (x ∷ xs) (y ∷ ys) g = (g.0, grows_take n xs ys g.1)

grows_drop : (n : ℕ) (xs ys : List ℕ) → Grows xs ys → Grows (drop n xs) (drop n ys)
grows_drop zero xs ys g = g
grows_drop (suc n) [] [] g = tt
grows_drop (suc n) [] (y ∷ ys) g = absurd g
grows_drop (suc n) (x ∷ xs) [] g = absurd g
grows_drop (suc n) (x ∷ xs) (y ∷ ys) g = grows_drop n xs ys g.1

pub grows_long : (xs ys : List ℕ) → Grows xs ys → length ys ≡ length xs
grows_long [] [] g = refl
grows_long [] (y ∷ ys) g = absurd g
grows_long (x ∷ xs) [] g = absurd g
grows_long (x ∷ xs) (y ∷ ys) g = ap suc (grows_long xs ys g.1)

pub grows_at : (xs ys : List ℕ) (place : ℕ) → Grows xs ys → 1 ≤ get_or xs place 0 → get_or ys place 0 ≡ get_or xs place 0
grows_at [] [] place g some = refl
grows_at [] (y ∷ ys) place g some = absurd g
grows_at (x ∷ xs) [] place g some = absurd g
grows_at (x ∷ xs) (y ∷ ys) zero g some = g.0 some
grows_at (x ∷ xs) (y ∷ ys) (suc place) g some = grows_at xs ys place g.1 some

pub grows_set : (xs : List ℕ) (place word : ℕ) → get_or xs place 0 ≡ 0 → Grows xs (set xs place word)
grows_set [] place word none = tt
grows_set (x ∷ xs) zero word none = (λ some. absurd (omega (arith, some, none)), grows_same xs)
grows_set (x ∷ xs) (suc place) word none = (λ _. refl, grows_set xs place word none)

pub upto_grows : (xs ys : List ℕ) (w : ℕ) → Grows xs ys → times (upto_empty xs) w ≤ times (upto_empty ys) w
upto_grows [] ys w g = omega arith
upto_grows (zero ∷ xs) ys w g = omega arith
upto_grows (suc x ∷ xs) [] w g = absurd g
upto_grows (suc x ∷ xs) (y ∷ ys) w g =
    subst (λ z. times (upto_empty (suc x ∷ xs)) w ≤ times (upto_empty (z ∷ ys)) w) (sym (g.0 (omega arith)))
    (let rest = upto_grows xs ys w g.1 in omega (arith, rest))

-- what a search meets it meets however the table grows
pub run_grows : (old new : List ℕ) (place w : ℕ) → Grows old new → times (run_at old place) w ≤ times (run_at new place) w
unfolding run_at
run_grows old new place w g = upto_grows (round place old) (round place new) w
    (grows_both (drop place old) (drop place new) (take place old) (take place new) (grows_drop place old new g) (grows_take place old new g))

pub count_cons : (test : ℕ → Bool) (x : ℕ) (xs : List ℕ) → count_by test (x ∷ xs) ≡ cond (test x) 1 0 + count_by test xs
count_cons test x xs =
    let e : count_by test (x ∷ xs) ≡ count_by test (x ∷ []) + count_by test xs = sum_by-append (λ y. cond (test y) 1 0) (x ∷ []) xs in
    let one : count_by test (x ∷ []) ≡ 0 + cond (test x) 1 0 = refl in
    omega (arith, e, one)

pub count_set : (test : ℕ → Bool) (xs : List ℕ) (place word : ℕ) → place < length xs → count_by test (set xs place word) + cond (test (get_or xs place 0)) 1 0 ≡ count_by test xs + cond (test word) 1 0
count_set test [] place word inside = absurd (omega (arith, inside))
count_set test (x ∷ xs) zero word inside = omega (arith, count_cons test x xs, count_cons test word xs)
count_set test (x ∷ xs) (suc place) word inside = omega (arith, count_cons test x xs, count_cons test x (set xs place word), count_set test xs place word (omega (arith, inside)))

pub times_set : (y : ℕ) (xs : List ℕ) (place word : ℕ) → place < length xs → times (set xs place word) y + one_of (get_or xs place 0) y ≡ times xs y + one_of word y
times_set y [] place word inside = absurd (omega (arith, inside))
times_set y (x ∷ xs) zero word inside = omega arith
times_set y (x ∷ xs) (suc place) word inside = omega (arith, times_set y xs place word (omega (arith, inside)))

-- the search for an empty place goes on
pub leads_on : (words : List ℕ) (first at : ℕ) → at < length words → 1 ≤ get_or words at 0 → LeadsTo words first at → LeadsTo words first (next_of at (length words))
leads_on words first at inside some leads = λ later g hole y.
    let long = grows_long words later g in
    let same = grows_at words later at g some in
    let step = run_step later at (omega (arith, inside, long)) hole (omega (arith, same, some)) in
    let counted = ap (λ ws. times ws y) step in
    let next = ap (λ n. times (run_at later (next_of at n)) y) long in
    let before = leads later g hole y in
    omega (arith, counted, next, before)

-- a word that stands at a place is met from there on
pub met_there : (words : List ℕ) (place : ℕ) → place < length words → 1 ≤ times words 0 → 1 ≤ get_or words place 0 → 1 ≤ times (run_at words place) (get_or words place 0)
met_there words place inside hole some =
    let w = get_or words place 0 in
    let counted : times (run_at words place) w ≡ times (w ∷ run_at words (next_of place (length words))) w = ap (λ ws. times ws w) (run_step words place inside hole some) in
    let one = one_same w in
    omega (arith, counted, one)

pub is_put : (words : List ℕ) (first at word : ℕ) → at < length words → get_or words at 0 ≡ 0 → 2 ≤ times words 0 → 1 ≤ word → LeadsTo words first at → IsPut words (set words at word) first word
is_put words first at word inside empty holes some leads =
    let new = set words at word in
    let g = grows_set words at word empty in
    let there : get_or new at 0 ≡ word = get_or-set_same words at word 0 inside in
    let long : length new ≡ length words = length-set words at word in
    let zero_there : one_of (get_or words at 0) 0 ≡ 1 = ap (λ x. one_of x 0) empty ∙ one_same 0 in
    let zero_here = one_other word 0 (λ e. absurd (omega (arith, e, some))) in
    let counted = times_set 0 words at word inside in
    let fewer : times words 0 ≡ times new 0 + 1 = omega (arith, counted, zero_there, zero_here) in
    let hole : 1 ≤ times new 0 = omega (arith, fewer, holes) in
    let met : 1 ≤ times (run_at new at) word = subst (λ w. 1 ≤ times (run_at new at) w) there (met_there new at (omega (arith, long, inside)) hole (omega (arith, there, some))) in
    let before = leads new g hole word in
    record {
      grows = g;
      each = λ test none.
          let e = count_set test words at word inside in
          let z : cond {A = ℕ} (test (get_or words at 0)) 1 0 ≡ 0 = ap (λ b. cond b 1 0) (ap test empty ∙ none) in
          omega (arith, e, z);
      hole = fewer;
      long = long;
      reached = omega (arith, met, before);
    }
