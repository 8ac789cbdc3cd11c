-- How far it is to the end of a comment, one byte on.
use Rattle.std.proofs.Common.{◌≡◌, ℕ, suc, ◌+◌, ◌<◌, List, ◌∷◌, length, drop, get_or, Some, None, false, eqb, arith, drop-cons, add-one, refl, ap, sym, ◌∙◌, take, ◌-◌, Bool}
use Rattle.std.proofs.lemmas.List.{take_rest}
use Rattle.std.specs.Prelude.{Option, codes}
use Rattle.std.specs.Option.{option_map}
use Rattle.std.specs.List.{starts_with}
use Rattle.sql_lex.specs.Gaps.{before_close}

-- a count that is moved on twice
pub moved_on : (found : Option ℕ) (at : ℕ) → option_map (λ n. n + at) (option_map suc found) ≡ option_map (λ n. n + (at + 1)) found
moved_on None at = refl
moved_on (Some n) at = ap Some (omega arith)

-- a byte where no `*/` begins
pub before_close-cons : (c : ℕ) (rest : List ℕ) → starts_with eqb (c ∷ rest) (codes "*/") ≡ false → before_close (c ∷ rest) ≡ option_map suc (before_close rest)
before_close-cons c rest other = rw other

pub before_close-on : (text : List ℕ) (at : ℕ) → at < length text → starts_with eqb (drop at text) (codes "*/") ≡ false → before_close (drop at text) ≡ option_map suc (before_close (drop (at + 1) text))
before_close-on text at within other =
    let cut : drop at text ≡ get_or text at 0 ∷ drop (at + 1) text = rw (add-one, drop-cons text at 0) in
    let there = rw cut at other in
    rw cut (before_close-cons (get_or text at 0) (drop (at + 1) text) there)

-- the loop's step: what is left after a byte gives the whole, moved on by one more
pub before_close-step : (text : List ℕ) (at : ℕ) (whole : Option ℕ) (tested : Bool) → at < length text
    → tested ≡ starts_with eqb (take (length text - at) (drop at text)) (codes "*/") → tested ≡ false
    → whole ≡ option_map (λ n. n + at) (before_close (drop at text)) → whole ≡ option_map (λ n. n + (at + 1)) (before_close (drop (at + 1) text))
before_close-step text at whole tested within test failed so_far =
    let other : starts_with eqb (drop at text) (codes "*/") ≡ false = ap (λ (s : List ℕ). starts_with eqb s (codes "*/")) (sym (take_rest text at)) ∙ sym test ∙ failed in
    so_far ∙ ap (option_map (λ n. n + at)) (before_close-on text at within other) ∙ moved_on (before_close (drop (at + 1) text)) at
