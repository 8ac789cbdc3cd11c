-- A first dash, and a first `=`, as std's calls find them.
use Rattle.std.proofs.Common.{◌≡◌, ◌≢◌, ◌<◌, ◌==◌, Bool, ap, ap₂, true, false, ℕ, List, [], ◌∷◌, length, Option, Some, None, option_map, refl, sym, arith}
use Rattle.std.specs.Prelude.{MatchOption}
use Rattle.std.specs.Borrow.{Bor}
use Rattle.std.specs.List.{before_first, after_first, position_or_len}
use Rattle.std.proofs.lemmas.Bool.Decides.{nat_tests}
use Rattle.run_settings.specs.Words.{Word, behind_dash, is_equals, has_equals, name_and_value}

-- the clause of `strip_prefix` at a dash
pub behind_dash-from : (bs : List ℕ) (r : Option (Bor (List ℕ)))
    → MatchOption r ((rest : List ℕ) → bs ≢ 45 ∷ rest) (λ x. bs ≡ 45 ∷ x.now) → option_map (λ s. s.now) r ≡ behind_dash bs
behind_dash-from [] None h = refl
behind_dash-from [] (Some x) h = cc
behind_dash-from (b ∷ bs) None h = go (b == 45) refl
  where
    go : (t : Bool) → (b == 45) ≡ t → None ≡ behind_dash (b ∷ bs)
    go true e = absurd (h bs (ap (λ n. n ∷ bs) (grind (arith, nat_tests))))
    go false e = rw e
behind_dash-from (b ∷ bs) (Some x) h = sym (ap behind_dash h)

-- where a `=` stands in the text
pub cut-here : (text name value : Word) → position_or_len is_equals text < length text → name ≡ before_first is_equals text
    → value ≡ after_first is_equals text → (name, Some value) ≡ name_and_value text
cut-here text name value lt n v =
    let e : has_equals text ≡ true = grind (arith, nat_tests) in
    rw e (ap₂ (λ (a b : Word). (a, Some b)) n v)

pub cut-nowhere : (text : Word) → position_or_len is_equals text ≡ length text → (text, None) ≡ name_and_value text
cut-nowhere text n =
    let e : has_equals text ≡ false = grind (arith, nat_tests) in
    rw e refl
