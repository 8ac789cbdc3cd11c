-- What searches of a table give, and what a word put into it makes of it.
use Rattle.std.proofs.Common.{inl, inr}
use Rattle.std.proofs.lemmas.Bool.{false≢true}
use Rattle.std.proofs.Math.Decide.{dec_le}
use mathlib.Core.Logic.{dite}
use Rattle.std.proofs.Common.{length-append, length}
use Rattle.std.proofs.Common.{◌≡◌, ◌≢◌, ℕ, zero, suc, ◌+◌, ◌≤◌, ◌==◌, ◌&&◌, Bool, true, false, cond, List, [], ◌∷◌, ◌++◌, length, take, drop, arith, ap, sym, ◌∙◌, refl, subst, eq-eqb, ne_eqb, length-append}
use Rattle.std.specs.List.{count_by, filter}
use Rattle.std.proofs.lemmas.Bool.Decides.{eqb_tells}
use Rattle.std.proofs.lemmas.List.{take-append-drop}
use Rattle.std.proofs.lemmas.List.Sums.{sum_by-append, length-filter}
use Rattle.number_bags.specs.Bags.{one_of, times}
use Rattle.number_bags.proofs.Bags.{one_same, times_both}
use Rattle.salt_words.specs.Runs.{upto_empty, round, run_at, has_salt, salted_at}
use Rattle.salt_words.specs.Tables.{Pointer, words_of, AllReached, IsTable, AreApart, AreEmpty, Grows, IsPut, BeginAt, both_tests}
use Rattle.salt_words.proofs.Rounds.{times_round, not_empty}
use Rattle.salt_words.proofs.Growing.{count_cons, run_grows}

count_both : (t : ℕ → Bool) (xs ys : List ℕ) → count_by t (xs ++ ys) ≡ count_by t xs + count_by t ys
count_both t xs ys = sum_by-append (λ y. cond (t y) 1 0) xs ys

count_round : (t : ℕ → Bool) (words : List ℕ) (place : ℕ) → count_by t (round place words) ≡ count_by t words
count_round t words place =
    let cut : count_by t (take place words ++ drop place words) ≡ count_by t words = ap (count_by t) (take-append-drop place words) in
    omega (arith, cut, count_both t (drop place words) (take place words), count_both t (take place words) (drop place words))

pub times_count : (xs : List ℕ) (y : ℕ) → times xs y ≡ count_by (λ x. x == y) xs
unfolding one_of
times_count [] y = refl
times_count (x ∷ xs) y = omega (arith, times_count xs y, count_cons (λ x. x == y) x xs)

-- what stands behind the first empty place
abbrev behind : List ℕ → List ℕ
behind [] = []
behind (zero ∷ words) = zero ∷ words
behind (suc w ∷ words) = behind words

cut_empty : (xs : List ℕ) → upto_empty xs ++ behind xs ≡ xs
cut_empty [] = refl
cut_empty (zero ∷ xs) = refl
cut_empty (suc x ∷ xs) = ap (λ ws. suc x ∷ ws) (cut_empty xs)

count_filter_by : (g t : ℕ → Bool) (x : ℕ) (xs : List ℕ) (b : Bool) → count_by t (cond b (x ∷ xs) xs) ≡ cond (b && t x) 1 0 + count_by t xs
count_filter_by g t x xs true = count_cons t x xs
count_filter_by g t x xs false = omega arith

count_filter : (g t : ℕ → Bool) (xs : List ℕ) → count_by t (filter g xs) ≡ count_by (both_tests g t) xs
count_filter g t [] = refl
count_filter g t (x ∷ xs) =
    let rest = count_filter g t xs in
    let first : count_by t (filter g (x ∷ xs)) ≡ cond (g x && t x) 1 0 + count_by t (filter g xs) = count_filter_by g t x (filter g xs) (g x) in
    let one : count_by (both_tests g t) (x ∷ xs) ≡ cond (g x && t x) 1 0 + count_by (both_tests g t) xs = count_cons (both_tests g t) x xs in
    omega (arith, rest, first, one)

times_self : (x : ℕ) (xs : List ℕ) → 1 ≤ times (x ∷ xs) x
times_self x xs = omega (arith, one_same x)

count_none : (g t : ℕ → Bool) (xs : List ℕ) → ((y : ℕ) → g y ≡ true → times xs y ≡ 0) → count_by (both_tests g t) xs ≡ 0
count_none g t [] none = refl
count_none g t (x ∷ xs) none =
    let rest = count_none g t xs (λ y good. let e = none y good in omega (arith, e)) in
    let one : count_by (both_tests g t) (x ∷ xs) ≡ cond (g x && t x) 1 0 + count_by (both_tests g t) xs = count_cons (both_tests g t) x xs in
    let first = here (g x) refl in
    omega (arith, rest, one, first)
  where
    here : (b : Bool) → g x ≡ b → cond {A = ℕ} (b && t x) 1 0 ≡ 0
    here true good = let e = none x good in absurd (omega (arith, e, times_self x xs))
    here false good = refl

met : (good : ℕ → Bool) (words : List ℕ) (first : ℕ) (ps : List Pointer) → AllReached words ps → BeginAt good first ps → (y : ℕ) → good y ≡ true → 1 ≤ times (words_of ps) y → 1 ≤ times (run_at words first) y
unfolding one_of
met good words first [] reached begin y is some = absurd (omega (arith, some))
met good words first (p ∷ ps) reached begin y is some = elim (eqb_tells p.word y) [
  | inl same ↦
      let begins : p.first ≡ first = begin.0 (ap good same.1 ∙ is) in
      subst (λ f. 1 ≤ times (run_at words f) y) begins (subst (λ w. 1 ≤ times (run_at words p.first) w) same.1 reached.0)
  | inr other ↦
      let none : one_of p.word y ≡ 0 = ap (λ b. cond b 1 0) other.0 in
      met good words first ps reached.1 begin.1 y is (omega (arith, some, none))
]

abbrev pub is_word : ℕ → Bool
is_word zero = false
is_word (suc w) = true

count_words : (g : ℕ → Bool) (xs : List ℕ) → count_by g (upto_empty xs) ≤ count_by (both_tests is_word g) xs
count_words g [] = omega arith
count_words g (zero ∷ xs) = omega arith
count_words g (suc x ∷ xs) =
    let rest = count_words g xs in
    let one : count_by (both_tests is_word g) (suc x ∷ xs) ≡ cond (g (suc x)) 1 0 + count_by (both_tests is_word g) xs = count_cons (both_tests is_word g) (suc x) xs in
    omega (arith, rest, one, count_cons g (suc x) (upto_empty xs))

count_less : (p g : ℕ → Bool) (xs : List ℕ) → count_by (both_tests p g) xs ≤ count_by g xs
count_less p g [] = omega arith
count_less p g (x ∷ xs) =
    let rest = count_less p g xs in
    let one = count_cons (both_tests p g) x xs in
    let first : cond {A = ℕ} (p x && g x) 1 0 ≤ cond {A = ℕ} (g x) 1 0 = less (p x) in
    omega (arith, rest, one, first, count_cons g x xs)
  where
    less : (b : Bool) → cond {A = ℕ} (b && g x) 1 0 ≤ cond {A = ℕ} (g x) 1 0
    less true = omega arith
    less false = omega arith

module _ (words : List ℕ) (ps : List Pointer) (table : IsTable words ps) where
  -- A search meets each of its words once.
  pub search_bag : (good : ℕ → Bool) (first : ℕ) → AreApart ps → good 0 ≡ false → BeginAt good first ps
      → (t : ℕ → Bool) → count_by t (filter good (run_at words first)) ≡ count_by t (filter good (words_of ps))
  unfolding run_at
  search_bag good first apart none begin t =
      let xs = round first words in
      let both = both_tests good t in
      let cut : count_by both (upto_empty xs ++ behind xs) ≡ count_by both xs = ap (count_by both) (cut_empty xs) in
      let parts = count_both both (upto_empty xs) (behind xs) in
      let lost = count_none good t (behind xs) (no_other xs refl) in
      let all = count_round both words first in
      let table_has = table.each both (ap (λ b. b && t 0) none) in
      let left = count_filter good t (upto_empty xs) in
      let right = count_filter good t (words_of ps) in
      omega (arith, cut, parts, lost, all, table_has, left, right)
    where
      no_other : (xs : List ℕ) → xs ≡ round first words → (y : ℕ) → good y ≡ true → times (behind xs) y ≡ 0
      no_other xs is y good_y =
          let some : y ≢ 0 = λ e. absurd (false≢true (sym none ∙ sym (ap good e) ∙ good_y)) in
          let zero_out : (0 == y) ≡ false = ne_eqb 0 y (λ e. some (sym e)) in
          let same = table.each (λ x. x == y) zero_out in
          let a = times_count words y in
          let b = times_count (words_of ps) y in
          let cut : times (upto_empty xs ++ behind xs) y ≡ times xs y = ap (λ ws. times ws y) (cut_empty xs) in
          let parts = times_both (upto_empty xs) (behind xs) y in
          let all : times xs y ≡ times (round first words) y = ap (λ ws. times ws y) is in
          let whole = times_round words first y in
          let most = apart y in
          let front : times (upto_empty xs) y ≡ times (run_at words first) y = ap (λ ws. times (upto_empty ws) y) is in
          dite (dec_le 1 (times (words_of ps) y))
          (λ there. let hit = met good words first ps table.reached begin y good_y there in omega (arith, same, a, b, cut, parts, all, whole, most, front, hit))
          (λ absent. omega (arith, same, a, b, cut, parts, all, whole, absent))

  -- A search compares no more rows than there are with its salt.
  pub search_steps : (salt first : ℕ) → length (salted_at words salt first) ≤ count_by (has_salt salt) (words_of ps)
  unfolding salted_at run_at
  search_steps salt first =
      let g = has_salt salt in
      let long = length-filter g (upto_empty (round first words)) in
      let front = count_words g (round first words) in
      let all = count_round (both_tests is_word g) words first in
      let same = table.each (both_tests is_word g) refl in
      let less = count_less is_word g (words_of ps) in
      omega (arith, long, front, all, same, less)

pub words_both : (ps qs : List Pointer) → words_of (ps ++ qs) ≡ words_of ps ++ words_of qs
words_both [] qs = refl
words_both (p ∷ ps) qs = ap (λ ws. p.word ∷ ws) (words_both ps qs)

reached_on : (old new : List ℕ) (ps qs : List Pointer) → Grows old new → AllReached old ps → AllReached new qs → AllReached new (ps ++ qs)
reached_on old new [] qs g have more = more
reached_on old new (p ∷ ps) qs g have more =
    (let before = have.0 in let grown = run_grows old new p.first p.word g in omega (arith, before, grown), reached_on old new ps qs g have.1 more)

-- a word that was put in makes a table with one pointer more
pub put_adds : (old new : List ℕ) (ps : List Pointer) (first word : ℕ) → IsTable old ps → IsPut old new first word → IsTable new (ps ++ record { first = first; word = word } ∷ [])
put_adds old new ps first word table put =
    let p : Pointer = record { first = first; word = word } in
    record {
      each = λ test none.
          let before = table.each test none in
          let more = put.each test none in
          let words : count_by test (words_of (ps ++ p ∷ [])) ≡ count_by test (words_of ps ++ word ∷ []) = ap (count_by test) (words_both ps (p ∷ [])) in
          let one : count_by test (word ∷ []) ≡ cond (test word) 1 0 + count_by test [] = count_cons test word [] in
          let no_more : count_by test [] ≡ 0 = refl in
          omega (arith, before, more, words, count_both test (words_of ps) (word ∷ []), one, no_more);
      holes =
          let before = table.holes in
          let hole = put.hole in
          let long = put.long in
          let one : length (ps ++ p ∷ []) ≡ length ps + 1 = length-append ps (p ∷ []) in
          omega (arith, before, hole, long, one);
      reached = reached_on old new ps (p ∷ []) put.grows table.reached (put.reached, tt);
    }

-- so does it keep pointers apart
pub put_apart : (ps : List Pointer) (first word : ℕ) → AreApart ps → times (words_of ps) word ≡ 0 → AreApart (ps ++ record { first = first; word = word } ∷ [])
unfolding one_of
put_apart ps first word apart fresh = λ y.
    let p : Pointer = record { first = first; word = word } in
    let words : times (words_of (ps ++ p ∷ [])) y ≡ times (words_of ps ++ word ∷ []) y = ap (λ ws. times ws y) (words_both ps (p ∷ [])) in
    let both = times_both (words_of ps) (word ∷ []) y in
    let before = apart y in
    elim (eqb_tells word y) [
      | inl same ↦
          let none : times (words_of ps) y ≡ 0 = sym (ap (times (words_of ps)) same.1) ∙ fresh in
          let one : one_of word y ≡ 1 = ap (λ b. cond b 1 0) same.0 in
          omega (arith, words, both, none, one)
      | inr other ↦
          let none : one_of word y ≡ 0 = ap (λ b. cond b 1 0) other.0 in
          omega (arith, words, both, before, none)
    ]

times_filter : (g : ℕ → Bool) (xs : List ℕ) (y : ℕ) → times (filter g xs) y ≤ times xs y
times_filter g [] y = omega arith
times_filter g (x ∷ xs) y = by (g x) (times_filter g xs y)
  where
    by : (b : Bool) → times (filter g xs) y ≤ times xs y → times (cond b (x ∷ filter g xs) (filter g xs)) y ≤ times (x ∷ xs) y
    by true less = omega (arith, less)
    by false less = omega (arith, less)

no_empty : (xs : List ℕ) → times (upto_empty xs) 0 ≡ 0
no_empty [] = refl
no_empty (zero ∷ xs) = refl
no_empty (suc x ∷ xs) = omega (arith, no_empty xs, not_empty x)

-- what a search meets is a pointer's word
pub met_word : (words : List ℕ) (ps : List Pointer) (salt place w : ℕ) (ws : List ℕ) → IsTable words ps → salted_at words salt place ≡ w ∷ ws → 1 ≤ times (words_of ps) w
unfolding salted_at run_at
met_word words ps salt place w ws table is =
    let run = upto_empty (round place words) in
    let here = times_self w ws in
    let front : times (filter (has_salt salt) run) w ≡ times (w ∷ ws) w = ap (λ xs. times xs w) is in
    let less = times_filter (has_salt salt) run w in
    let cut : times (run ++ behind (round place words)) w ≡ times (round place words) w = ap (λ xs. times xs w) (cut_empty (round place words)) in
    let parts = times_both run (behind (round place words)) w in
    let whole = times_round words place w in
    let none = no_empty (round place words) in
    let some : w ≢ 0 = λ e. (let at_zero : times run w ≡ times run 0 = ap (times run) e in absurd (omega (arith, here, front, less, at_zero, none))) in
    let same = table.each (λ x. x == w) (ne_eqb 0 w (λ e. some (sym e))) in
    let a = times_count words w in
    let b = times_count (words_of ps) w in
    omega (arith, here, front, less, cut, parts, whole, same, a, b)

count_empty : (words : List ℕ) (test : ℕ → Bool) → AreEmpty words → test 0 ≡ false → count_by test words ≡ 0
count_empty [] test empty none = refl
count_empty (x ∷ xs) test empty none =
    let first : cond {A = ℕ} (test x) 1 0 ≡ 0 = ap (λ b. cond b 1 0) (ap test (empty 0) ∙ none) in
    omega (arith, count_cons test x xs, first, count_empty xs test (λ place. empty (suc place)) none)

holes_empty : (words : List ℕ) → AreEmpty words → times words 0 ≡ length words
holes_empty [] empty = refl
holes_empty (x ∷ xs) empty =
    let first : one_of x 0 ≡ 1 = ap (λ w. one_of w 0) (empty 0) ∙ one_same 0 in
    omega (arith, first, holes_empty xs (λ place. empty (suc place)))

-- empty places are a table of no pointers
pub empty_table : (words : List ℕ) → AreEmpty words → IsTable words []
empty_table words empty =
    record {
      each = λ test none. count_empty words test empty none;
      holes = (let all = holes_empty words empty in omega (arith, all));
      reached = tt;
    }
