-- Pointer tables: which words stand in them, and that a search meets them.
use Rattle.std.specs.Prelude.{◌≡◌, ℕ, ◌+◌, ◌≤◌, Bool, ◌&&◌, true, false, cond, List, [], ◌∷◌, length, get_or, count_by, ⊤}
use Rattle.number_bags.specs.Bags.{times}
use Rattle.salt_words.specs.Runs.{run_at}

-- where the search for a row begins, and its word
pub record Pointer : Type 0 where
  pub first : ℕ
  pub word : ℕ

-- the words of pointers
abbrev pub words_of : List Pointer → List ℕ
words_of [] = []
words_of (p ∷ ps) = p.word ∷ words_of ps

-- each pointer's search meets its word, before the first empty place
abbrev pub AllReached : List ℕ → List Pointer → Type 0
AllReached words [] = ⊤
AllReached words (p ∷ ps) = (1 ≤ times (run_at words p.first) p.word) × AllReached words ps

-- the words of a table are those of its pointers and empty places, and each pointer's search meets its word
pub record IsTable (words : List ℕ) (pointers : List Pointer) : Type 0 where
  pub each : (test : ℕ → Bool) → test 0 ≡ false → count_by test words ≡ count_by test (words_of pointers)
  pub holes : times words 0 + length pointers ≡ length words
  pub reached : AllReached words pointers

-- all places are empty
abbrev pub AreEmpty : List ℕ → Type 0
AreEmpty words = (place : ℕ) → get_or words place 0 ≡ 0

-- no two pointers have one word
abbrev pub AreApart : List Pointer → Type 0
AreApart pointers = (y : ℕ) → times (words_of pointers) y ≤ 1

-- one list has all words of another where they are, and may have more where the other has empty places
abbrev pub Grows : List ℕ → List ℕ → Type 0
Grows [] [] = ⊤
Grows [] (y ∷ ys) = ⊥
Grows (x ∷ xs) [] = ⊥
Grows (x ∷ xs) (y ∷ ys) = (1 ≤ x → y ≡ x) × Grows xs ys

-- one word was put into an empty place, where a search meets it
pub record IsPut (old new : List ℕ) (first word : ℕ) : Type 0 where
  pub grows : Grows old new
  pub each : (test : ℕ → Bool) → test 0 ≡ false → count_by test new ≡ count_by test old + cond (test word) 1 0
  pub hole : times old 0 ≡ times new 0 + 1
  pub long : length new ≡ length old
  pub reached : 1 ≤ times (run_at new first) word

-- what a search from a place on meets, one from the first place on meets too, however the table grows
abbrev pub LeadsTo : List ℕ → ℕ → ℕ → Type 0
LeadsTo words first at = (later : List ℕ) → Grows words later → 1 ≤ times later 0 → (y : ℕ) → times (run_at later at) y ≤ times (run_at later first) y

-- the pointers that pass a test begin their search at a place
abbrev pub BeginAt : (ℕ → Bool) → ℕ → List Pointer → Type 0
BeginAt good first [] = ⊤
BeginAt good first (p ∷ ps) = (good p.word ≡ true → p.first ≡ first) × BeginAt good first ps

-- whether a number passes both of two tests
abbrev pub both_tests : (ℕ → Bool) → (ℕ → Bool) → ℕ → Bool
both_tests p q x = p x && q x
