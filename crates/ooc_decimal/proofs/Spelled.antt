-- What a text spells, by its parts.
use Rattle.std.proofs.Common.{◌≡◌, ℕ, ℤ, ◌-◌, ◌*◌, ◌^◌, ◌<◌, ◌≤◌, Bool, true, false, cond, List, ◌++◌, length, refl, ◌∙◌, ap, sym, subst, arith, Option, Some, None, ltb}
use Rattle.std.specs.Option.{SomeIff, MatchOption}
use Rattle.std.specs.Str.{all_ascii_digits}
use Rattle.std.proofs.lemmas.Bool.{ltb-true, ltb-false}
use Rattle.std.proofs.lemmas.Bool.Decides.{nat_tests}
use Rattle.ooc_types.specs.declared.schema.SqlType.{SqlType}
use Rattle.ooc_types.specs.Meets.{IsInRange}
use Rattle.ooc_decimal.specs.Numeric.{IsNumeric, signed, scale_of}
use Rattle.ooc_decimal.specs.Numeral.{number_after, is_numeral, magnitude, spelled, trimmed, has_minus, without_sign, whole_of, part_of}
use Rattle.ooc_decimal.specs.Digits.{ReadsScaled, ReadsMagnitude}
use Rattle.ooc_decimal.specs.Read.{IsReadAs}
use Rattle.ooc_decimal.proofs.NumberAfter.{carried}
use Rattle.ooc_decimal.proofs.Rounding.{exact}
use Rattle.ooc_decimal.proofs.OutOfRange.{signed_too_large}

-- bytes that are there are a numeral where they are digits
pub numeral_is : (bytes : List ℕ) → 0 < length bytes → all_ascii_digits bytes ≡ is_numeral bytes
numeral_is bytes some = grind (arith, nat_tests)

pub magnitude_exact : (whole part : List ℕ) (scale : ℕ) (o : Option ℕ) → 0 < length (whole ++ part) → length part ≤ scale → ReadsScaled (whole ++ part) (scale - length part) o → ReadsMagnitude whole part scale o
magnitude_exact whole part scale o some few known =
    carried o (all_ascii_digits (whole ++ part)) (is_numeral (whole ++ part)) (number_after 0 (whole ++ part) * 10 ^ (scale - length part)) (magnitude whole part scale)
    (numeral_is (whole ++ part) some) (exact (number_after 0 (whole ++ part)) (length part) scale few) known

spelled_is : (kind : SqlType) (text body numeral whole part : List ℕ) (negative : Bool) (scale : ℕ) → body ≡ trimmed text → negative ≡ has_minus body → numeral ≡ without_sign body → whole ≡ whole_of kind numeral → part ≡ part_of kind numeral → scale ≡ scale_of kind → spelled kind text ≡ cond (is_numeral (whole ++ part)) (Some (signed negative (magnitude whole part scale))) None
unfolding spelled
spelled_is kind text body numeral whole part negative scale e1 e2 e3 e4 e5 e6 = rw (e4, e5, e3, e2, e1, e6) refl

pub answers_some : (kind : SqlType) (text body numeral whole part : List ℕ) (negative : Bool) (scale m : ℕ) (o : Option ℤ) → body ≡ trimmed text → negative ≡ has_minus body → numeral ≡ without_sign body → whole ≡ whole_of kind numeral → part ≡ part_of kind numeral → scale ≡ scale_of kind → ReadsMagnitude whole part scale (Some m) → SomeIff o (IsInRange kind (signed negative m)) (signed negative m) → IsReadAs kind text o
answers_some kind text body numeral whole part negative scale m o e1 e2 e3 e4 e5 e6 read known =
    let is = spelled_is kind text body numeral whole part negative scale e1 e2 e3 e4 e5 e6 ∙ ap (λ t. cond t (Some (signed negative (magnitude whole part scale))) None) read.0.0 ∙ ap (λ k. Some (signed negative k)) (sym read.1) in
    let P : Option ℤ → Type 0 = λ s. MatchOption s (o ≡ None) (λ digits. SomeIff o (IsInRange kind digits) digits) in
    subst P (sym is) known

pub answers_none : (kind : SqlType) (text body numeral whole part : List ℕ) (negative : Bool) (scale : ℕ) → IsNumeric kind → body ≡ trimmed text → negative ≡ has_minus body → numeral ≡ without_sign body → whole ≡ whole_of kind numeral → part ≡ part_of kind numeral → scale ≡ scale_of kind → ReadsMagnitude whole part scale None → IsReadAs kind text None
answers_none kind text body numeral whole part negative scale numeric e1 e2 e3 e4 e5 e6 none =
    let nothing : Option ℤ = None in
    let P : Option ℤ → Type 0 = λ s. MatchOption s (nothing ≡ None) (λ digits. IsInRange kind digits → ⊥) in
    let number = magnitude whole part scale in
    let is = spelled_is kind text body numeral whole part negative scale e1 e2 e3 e4 e5 e6 in
    subst P (sym is) (elim (is_numeral (whole ++ part)) as (λ t. is_numeral (whole ++ part) ≡ t → P (cond t (Some (signed negative number)) None)) [
      | true ↦ λ e inside. elim (ltb number (2 ^ 128)) as (λ t. ltb number (2 ^ 128) ≡ t → ⊥) [
        | true ↦ λ f. none (e, ltb-true number (2 ^ 128) f)
        | false ↦ λ f. signed_too_large kind numeric negative number (omega (arith, ltb-false number (2 ^ 128) f)) inside
      ] refl
      | false ↦ λ e. refl
    ] refl)
