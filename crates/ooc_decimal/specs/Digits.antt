-- What digits that are read one after another give.
use Rattle.std.specs.Prelude.{◌≡◌, ℕ, true, Option, List, ◌++◌, ◌+◌, ◌*◌, ◌<◌, ◌^◌, length}
use Rattle.std.specs.Option.{SomeIff}
use Rattle.std.specs.Str.{all_ascii_digits}
use Rattle.ooc_decimal.specs.Numeral.{number_after, rounded, is_numeral, magnitude}

-- the number behind the digits of n, where the bytes are digits and it fits 128 bits
abbrev pub ReadsOn : ℕ → List ℕ → Option ℕ → Type 0
ReadsOn n digits outcome = SomeIff outcome ((all_ascii_digits digits ≡ true) × (number_after n digits < 2 ^ 128)) (number_after n digits)

-- the same where the number surely fits
abbrev pub ReadsNarrow : ℕ → List ℕ → Option ℕ → Type 0
ReadsNarrow n digits outcome = SomeIff outcome (all_ascii_digits digits ≡ true) (number_after n digits)

-- the number with zeros behind it
abbrev pub ReadsScaled : List ℕ → ℕ → Option ℕ → Type 0
ReadsScaled digits zeros outcome =
    SomeIff outcome ((all_ascii_digits digits ≡ true) × (number_after 0 digits * 10 ^ zeros < 2 ^ 128)) (number_after 0 digits * 10 ^ zeros)

-- the number rounded to `scale` places, of which the kept digits have the last ones
abbrev pub ReadsRounded : List ℕ → List ℕ → ℕ → Option ℕ → Type 0
ReadsRounded kept dropped scale outcome =
    let number = rounded (number_after 0 (kept ++ dropped)) (scale + length dropped) scale in
    SomeIff outcome ((all_ascii_digits (kept ++ dropped) ≡ true) × (number < 2 ^ 128)) number

-- the magnitude, where digits alone stand before and behind the point, and it fits 128 bits
abbrev pub ReadsMagnitude : List ℕ → List ℕ → ℕ → Option ℕ → Type 0
ReadsMagnitude whole part scale outcome =
    SomeIff outcome ((is_numeral (whole ++ part) ≡ true) × (magnitude whole part scale < 2 ^ 128)) (magnitude whole part scale)
