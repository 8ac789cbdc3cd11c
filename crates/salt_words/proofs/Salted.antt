-- Of the words that a search meets, those with a salt.
use Rattle.std.proofs.Common.{◌≡◌, ℕ, ◌+◌, ◌<◌, ◌≤◌, Bool, true, false, cond, List, [], ◌∷◌, length, get_or, arith, ap, ◌∙◌}
use Rattle.std.specs.List.{filter}
use Rattle.number_bags.specs.Bags.{times}
use Rattle.salt_words.specs.Runs.{run_at, next_of, has_salt, salted_at}
use Rattle.salt_words.proofs.Rounds.{run_step, run_empty}

filter_out : (p : ℕ → Bool) (x : ℕ) (xs : List ℕ) → p x ≡ false → filter p (x ∷ xs) ≡ filter p xs
filter_out p x xs out = ap (λ b. cond b (x ∷ filter p xs) (filter p xs)) out

filter_in : (p : ℕ → Bool) (x : ℕ) (xs : List ℕ) → p x ≡ true → filter p (x ∷ xs) ≡ x ∷ filter p xs
filter_in p x xs isin = ap (λ b. cond b (x ∷ filter p xs) (filter p xs)) isin

module _ (words : List ℕ) (salt place : ℕ) (inside : place < length words) (hole : 1 ≤ times words 0) where
  pub shorter : 1 ≤ get_or words place 0 → length (run_at words place) ≡ 1 + length (run_at words (next_of place (length words)))
  shorter some = ap length (run_step words place inside hole some) ∙ omega arith

  pub other_salt : 1 ≤ get_or words place 0 → has_salt salt (get_or words place 0) ≡ false → salted_at words salt place ≡ salted_at words salt (next_of place (length words))
  unfolding salted_at
  other_salt some other =
      ap (filter (has_salt salt)) (run_step words place inside hole some) ∙ filter_out (has_salt salt) (get_or words place 0) (run_at words (next_of place (length words))) other

  pub same_salt : 1 ≤ get_or words place 0 → has_salt salt (get_or words place 0) ≡ true → salted_at words salt place ≡ get_or words place 0 ∷ salted_at words salt (next_of place (length words))
  unfolding salted_at
  same_salt some same =
      ap (filter (has_salt salt)) (run_step words place inside hole some) ∙ filter_in (has_salt salt) (get_or words place 0) (run_at words (next_of place (length words))) same

  pub no_more : get_or words place 0 ≡ 0 → salted_at words salt place ≡ []
  unfolding salted_at
  no_more none = ap (filter (has_salt salt)) (run_empty words place inside none)
