-- A text taken apart character by character.
use Rattle.std.proofs.Common.{◌≡◌, ℕ, zero, suc, ◌-◌, ◌≤◌, List, [], ◌∷◌, refl, sym, ap, ◌∙◌, arith, take, drop, length}
use Rattle.std.proofs.lemmas.Grind.{common_steps}
use Rattle.sql_expr.specs.Characters.{characters, characters_behind, char_length}

behind : (n : ℕ) (bytes : List ℕ) → characters_behind n bytes ≡ characters_behind 0 (drop n bytes)
behind zero bytes = refl
behind (suc n) [] = refl
behind (suc n) (byte ∷ bytes) = behind n bytes

pub characters_nil : characters [] ≡ []
unfolding characters
characters_nil = refl

first : (n : ℕ) (bytes : List ℕ) → n ≡ char_length bytes → 1 ≤ n → 1 ≤ length bytes → characters bytes ≡ take n bytes ∷ characters (drop n bytes)
unfolding characters
first n [] is some long = absurd (omega arith)
first zero (byte ∷ bytes) is some long = absurd (omega arith)
first (suc n) (byte ∷ bytes) is some long =
    ap (λ k. take k (byte ∷ bytes) ∷ characters_behind (k - 1) bytes) (sym is)
    ∙ ap (λ k. take (suc n) (byte ∷ bytes) ∷ characters_behind k bytes) (omega arith)
    ∙ ap (λ rest. take (suc n) (byte ∷ bytes) ∷ rest) (behind n bytes)

pub parts : (n : ℕ) (bytes : List ℕ) → n ≡ char_length bytes → 1 ≤ n → n ≤ length bytes → 1 ≤ length bytes
    → characters bytes ≡ take n bytes ∷ characters (take (length bytes - n) (drop n bytes))
parts n bytes is some within long =
    let e : take (length bytes - n) (drop n bytes) ≡ drop n bytes = grind (arith, common_steps) in
    first n bytes is some long ∙ ap (λ rest. take n bytes ∷ characters rest) (sym e)

pub characters_empty : (bytes : List ℕ) → length bytes ≡ 0 → characters bytes ≡ []
characters_empty [] h = characters_nil
characters_empty (byte ∷ bytes) h = absurd (omega arith)
