-- Dates are told apart by their texts.
use Rattle.std.proofs.Common.{◌≡◌, ℕ, ◌+◌, ◌*◌, ◌/◌, ◌%◌, ◌<◌, List, length, ◌∷◌, ◌++◌, [], get_or, refl, sym, ap, ap₂, ◌∙◌, arith, ℤ}
use Rattle.ooc_types.specs.Meets.{IsDay}
use Rattle.date_values.specs.declared.date.Date.{Date}
use Rattle.date_values.specs.Calendar.{date_of}
use Rattle.date_values.specs.DateText.{two_digits, date_text, day_text}
use Rattle.date_values.proofs.Counted.{days_same}

digits_same : (m n : ℕ) → 48 + m / 10 ≡ 48 + n / 10 → 48 + m % 10 ≡ 48 + n % 10 → m ≡ n
digits_same m n p q = omega arith

pub texts_same : (d e : Date) → date_text d ≡ date_text e → d ≡ e
texts_same d e same =
    let at : (k : ℕ) → get_or (date_text d) k 0 ≡ get_or (date_text e) k 0 = λ k. ap (λ l. get_or l k 0) same in
    let century = digits_same (d.year / 100) (e.year / 100) (at 0) (at 1) in
    let rest = digits_same (d.year % 100) (e.year % 100) (at 2) (at 3) in
    let year : d.year ≡ e.year = omega arith in
    let month = digits_same d.month e.month (at 5) (at 6) in
    let day = digits_same d.day e.day (at 8) (at 9) in
    λ i. record { year = year i; month = month i; day = day i }

pub day_texts_same : (day other : ℤ) → IsDay day → IsDay other → day_text day ≡ day_text other → day ≡ other
unfolding day_text
day_texts_same day other p q same = days_same day other p q (texts_same (date_of day) (date_of other) same)

-- a year of four digits, two and two
pub of_parts : (c y m d : ℕ) → y < 100 → two_digits c ++ two_digits y ++ 45 ∷ two_digits m ++ 45 ∷ two_digits d ≡ date_text (record { year = c * 100 + y; month = m; day = d })
of_parts c y m d h =
    let high : (c * 100 + y) / 100 ≡ c = omega arith in
    let low : (c * 100 + y) % 100 ≡ y = omega arith in
    rw (high, low) refl

ten_bytes : (l : List ℕ) → length l ≡ 10 → l ≡ get_or l 0 0 ∷ get_or l 1 0 ∷ get_or l 2 0 ∷ get_or l 3 0 ∷ get_or l 4 0 ∷ get_or l 5 0 ∷ get_or l 6 0 ∷ get_or l 7 0 ∷ get_or l 8 0 ∷ get_or l 9 0 ∷ []
ten_bytes (a ∷ b ∷ c ∷ d ∷ e ∷ f ∷ g ∷ h ∷ i ∷ j ∷ []) e' = refl
ten_bytes l e' = absurd (omega arith)

-- ten bytes, two and two, with hyphens
pub ten_are : (l : List ℕ) (c y m d : ℕ) → length l ≡ 10 → get_or l 4 0 ≡ 45 → get_or l 7 0 ≡ 45 → y < 100
    → get_or l 0 0 ∷ get_or l 1 0 ∷ [] ≡ two_digits c → get_or l 2 0 ∷ get_or l 3 0 ∷ [] ≡ two_digits y
    → get_or l 5 0 ∷ get_or l 6 0 ∷ [] ≡ two_digits m → get_or l 8 0 ∷ get_or l 9 0 ∷ [] ≡ two_digits d
    → l ≡ date_text (record { year = c * 100 + y; month = m; day = d })
ten_are l c y m d ten first second small p q r s =
    ten_bytes l ten
    ∙ ap₂ (λ a b. get_or l 0 0 ∷ get_or l 1 0 ∷ get_or l 2 0 ∷ get_or l 3 0 ∷ a ∷ get_or l 5 0 ∷ get_or l 6 0 ∷ b ∷ get_or l 8 0 ∷ get_or l 9 0 ∷ []) first second
    ∙ (λ i. p i ++ q i ++ 45 ∷ r i ++ 45 ∷ s i)
    ∙ of_parts c y m d small

pub length_day_text : (day : ℤ) → length (day_text day) ≡ 10
unfolding day_text
length_day_text day = refl
