-- The words of a pointer table, and how a search goes through them. An empty place has the word 0.
use Rattle.std.specs.Prelude.{ℕ, zero, suc, ◌+◌, ◌/◌, ◌^◌, ◌==◌, Bool, cond, List, [], ◌∷◌, ◌++◌, take, drop, filter}

-- the front of a list, up to the first empty place
abbrev pub upto_empty : List ℕ → List ℕ
upto_empty [] = []
upto_empty (zero ∷ words) = []
upto_empty (suc w ∷ words) = suc w ∷ upto_empty words

-- all words, from a place on and round the end
abbrev pub round : ℕ → List ℕ → List ℕ
round place words = drop place words ++ take place words

-- the words that a search from a place on meets before the first empty place
unfoldable pub run_at : List ℕ → ℕ → List ℕ
run_at words place = upto_empty (round place words)

-- the place behind a place, round the end
unfoldable pub next_of : ℕ → ℕ → ℕ
next_of place count = cond (place + 1 == count) 0 (place + 1)

-- the salt of a word stands in its highest 16 bits
unfoldable pub has_salt : ℕ → ℕ → Bool
has_salt salt word = word / 2 ^ 48 == salt

-- of the words that a search meets, those with a salt
unfoldable pub salted_at : List ℕ → ℕ → ℕ → List ℕ
salted_at words salt place = filter (has_salt salt) (run_at words place)
