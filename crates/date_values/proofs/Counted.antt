-- The calendar that is counted day by day is that of `jiff_core`, whose day numbers begin at 1970-01-01 too.
use Rattle.std.proofs.Common.{◌≡◌, ℕ, zero, suc, ◌+◌, ◌-◌, ◌<◌, ◌≤◌, Bool, true, false, cond, nat_lt, ltb, refl, sym, ap, ap₂, subst, ◌∙◌, arith, ℤ, pos, negsuc, neg_ℤ, ◌+ℤ◌, ◌-ℤ◌, ◌≤ℤ◌, unsigned_abs}
use Rattle.std.proofs.lemmas.Bool.{ltb-true, ltb-false}
use Rattle.std.proofs.lemmas.Int.{ints}
use Rattle.jiff_core.specs.declared.civil.date.Date.{Date as Civil}
use Rattle.jiff_core.specs.Calendar.{day_count, days_from_civil, days_in_year, IsYear, IsCivilDate, IsDate}
use Rattle.jiff_core.specs.Date.{epoch_day}
use Rattle.jiff_core.proofs.SignedLemmas.{signed_arith}
use Rattle.jiff_core.proofs.MarchLemmas.{day_count-early}
use Rattle.jiff_core.proofs.CalendarLemmas.{day_count-epoch, days_in_month_bounds, days_from_civil-day_count, day_count-day, day_count-next_month, day_count-next_year, day_count-last_of_year, day_count-end}
use Rattle.jiff_core.proofs.DateLemmas.{epoch_day_injective, days_from_civil-max}
use Rattle.jiff_core.proofs.StandardFacts.{known_days}
use Rattle.ooc_types.specs.Meets.{first_day, last_day, IsDay}
use Rattle.date_values.specs.declared.date.Date.{Date}
use Rattle.date_values.specs.Calendar.{days_in_month, next_day, date_after, date_of}
use borrow.Author.Differences.{up, down}

-- the calendar of `jiff_core` has the date
abbrev pub IsCivil : Date → Type 0
IsCivil d = IsCivilDate (pos d.year) d.month d.day

abbrev count : Date → ℕ
count d = day_count (pos d.year) d.month d.day

first_count : day_count (pos 1) 1 1 ≡ 3_652_791
first_count = day_count-early (pos 1) 10000 1 1 refl (omega arith) (omega arith) (omega arith)

later_day : (d : Date) → IsCivil d → d.day < days_in_month d.year d.month → IsCivil (record { year = d.year; month = d.month; day = d.day + 1 }) × (count (record { year = d.year; month = d.month; day = d.day + 1 }) ≡ count d + 1)
later_day d is more = ((is.0, is.1, (omega arith, omega arith)), omega (arith, day_count-day (pos d.year) d.month (d.day + 1) d.day (omega arith) is.2.0))

later_month : (d : Date) → IsCivil d → d.day ≡ days_in_month d.year d.month → d.month < 12 → IsCivil (record { year = d.year; month = d.month + 1; day = 1 }) × (count (record { year = d.year; month = d.month + 1; day = 1 }) ≡ count d + 1)
later_month d is last more = (
  (is.0, (omega arith, omega arith), (omega arith, omega (arith, days_in_month_bounds (pos d.year) (d.month + 1)))),
  omega (arith, day_count-next_month (pos d.year) d.month is.1.0, day_count-day (pos d.year) d.month d.day 1 is.2.0 (omega arith)),
)

later_year : (d : Date) → IsCivil d → d.day ≡ days_in_month d.year d.month → d.month ≡ 12 → count d < 7_304_849 → IsCivil (record { year = d.year + 1; month = 1; day = 1 }) × (count (record { year = d.year + 1; month = 1; day = 1 }) ≡ count d + 1)
later_year d is last end small =
    let y = pos d.year in
    let all : d.day ≡ 31 = last ∙ ap (days_in_month d.year) end in
    let same : count d ≡ day_count y 12 31 = ap₂ (day_count y) end all in
    let next : day_count (pos (d.year + 1)) 1 1 ≡ day_count y 1 1 + days_in_year y = day_count-next_year y (pos (d.year + 1)) (omega (arith, signed_arith)) refl in
    let until = day_count-last_of_year y in
    let step : day_count (pos (d.year + 1)) 1 1 ≡ count d + 1 = omega arith in
    let below : d.year < 9999 = before (ltb d.year 9999) refl (omega (arith, signed_arith)) step in
    (((omega (arith, signed_arith), omega (arith, signed_arith)), (omega arith, omega arith), (omega arith, omega arith)), step)
  where
    before : (b : Bool) → ltb d.year 9999 ≡ b → d.year ≤ 9999 → day_count (pos (d.year + 1)) 1 1 ≡ count d + 1 → d.year < 9999
    before true e top step = ltb-true d.year 9999 e
    before false e top step =
        let same : d.year ≡ 9999 = omega (arith, ltb-false d.year 9999 e) in
        let at : day_count (pos (d.year + 1)) 1 1 ≡ 7_304_850 = ap (λ k. day_count (pos (k + 1)) 1 1) same ∙ day_count-end in
        absurd (omega arith)

next_counted : (d : Date) (k : ℕ) → IsCivil d → count d ≡ k → k < 7_304_849 → IsCivil (next_day d) × (count (next_day d) ≡ k + 1)
next_counted d k is e small = go (ltb d.day (days_in_month d.year d.month)) (ltb d.month 12) refl refl
  where
    up_by_one : (x : Date) → IsCivil x × (count x ≡ count d + 1) → IsCivil x × (count x ≡ k + 1)
    up_by_one x p = (p.0, omega (arith, p.1))

    go : (b c : Bool) → ltb d.day (days_in_month d.year d.month) ≡ b → ltb d.month 12 ≡ c
        → IsCivil (cond b (record { year = d.year; month = d.month; day = d.day + 1 }) (cond c (record { year = d.year; month = d.month + 1; day = 1 }) (record { year = d.year + 1; month = 1; day = 1 })))
        × (count (cond b (record { year = d.year; month = d.month; day = d.day + 1 }) (cond c (record { year = d.year; month = d.month + 1; day = 1 }) (record { year = d.year + 1; month = 1; day = 1 }))) ≡ k + 1)
    go true c p q = up_by_one _ (later_day d is (ltb-true d.day (days_in_month d.year d.month) p))
    go false true p q = up_by_one _ (later_month d is (omega (arith, is.2.1, ltb-false d.day (days_in_month d.year d.month) p)) (ltb-true d.month 12 q))
    go false false p q = up_by_one _ (later_year d is (omega (arith, is.2.1, ltb-false d.day (days_in_month d.year d.month) p)) (omega (arith, is.1.1, ltb-false d.month 12 q)) (omega arith))

counted : (n : ℕ) → n ≤ 3_652_058 → IsCivil (date_after n) × (count (date_after n) ≡ n + 3_652_791)
unfolding date_after
counted zero h = (((omega (arith, signed_arith), omega (arith, signed_arith)), (omega arith, omega arith), (omega arith, omega arith)), first_count)
counted (suc n) h =
    let before = counted n (omega arith) in
    let after = next_counted (date_after n) (n + 3_652_791) before.0 before.1 (omega arith) in
    (after.0, omega (arith, after.1))

whole_of : (z : ℤ) → pos 0 ≤ℤ z → pos (unsigned_abs z) ≡ z
whole_of (pos n) h = refl
whole_of (negsuc n) h = absurd (omega (arith, signed_arith))

-- the date of a day is one of the calendar, and has the day's number there
pub date_counted : (day : ℤ) → IsDay day → IsCivil (date_of day) × (days_from_civil (pos (date_of day).year) (date_of day).month (date_of day).day ≡ day)
unfolding date_of
date_counted day is =
    let n = unsigned_abs (day -ℤ first_day) in
    let whole : pos n ≡ day -ℤ first_day = whole_of (day -ℤ first_day) (omega (arith, signed_arith)) in
    let small : n ≤ 3_652_058 = omega (arith, signed_arith) in
    let there = counted n small in
    (there.0, omega (arith, signed_arith, there.1, days_from_civil-day_count (pos (date_after n).year) (date_after n).month (date_after n).day))

as_civil : (d : Date) → IsCivil d → Civil
as_civil d is = record { year = pos d.year; month = d.month; day = d.day; year_in = is.0; month_in = is.1; day_in = is.2 }

-- a date of `jiff_core` with a day's number is that day's date
pub found_is : (found : Civil) (day : ℤ) → IsDay day → epoch_day found ≡ day → (found.year ≡ pos (date_of day).year) × (found.month ≡ (date_of day).month) × (found.day ≡ (date_of day).day)
unfolding as_civil
found_is found day is e =
    let there = date_counted day is in
    epoch_day_injective found (as_civil (date_of day) there.0) (e ∙ sym there.1)

-- and one with the parts of a day's date has its number
pub number_is : (found : Civil) (date : Date) (day : ℤ) → IsDay day → found.year ≡ pos date.year → found.month ≡ date.month → found.day ≡ date.day → date_of day ≡ date → epoch_day found ≡ day
number_is found date day is year month dom e =
    ap₃ days_from_civil (year ∙ ap (λ (d : Date). pos d.year) (sym e)) (month ∙ ap (λ (d : Date). d.month) (sym e)) (dom ∙ ap (λ (d : Date). d.day) (sym e)) ∙ (date_counted day is).1
  where
    ap₃ : {A B C D : Type 0} (f : A → B → C → D) {a a' : A} {b b' : B} {c c' : C} → a ≡ a' → b ≡ b' → c ≡ c' → f a b c ≡ f a' b' c'
    ap₃ f p q r = λ i. f (p i) (q i) (r i)

-- two days of one date are one
pub days_same : (day other : ℤ) → IsDay day → IsDay other → date_of day ≡ date_of other → day ≡ other
days_same day other is is' e = sym (date_counted day is).1 ∙ ap (λ (d : Date). days_from_civil (pos d.year) d.month d.day) e ∙ (date_counted other is').1

date_from : (d : Date) (is : IsCivil d) (day : ℤ) → IsDay day → days_from_civil (pos d.year) d.month d.day ≡ day → date_of day ≡ d
unfolding as_civil
date_from d is day in_range e =
    let parts = found_is (as_civil d is) day in_range e in
    let year : (date_of day).year ≡ d.year = omega (arith, signed_arith, parts.0) in
    λ i. record { year = year i; month = sym parts.1 i; day = sym parts.2 i }

pub epoch_date : date_of (pos 0) ≡ record { year = 1970; month = 1; day = 1 }
epoch_date = date_from (record { year = 1970; month = 1; day = 1 }) ((omega (arith, signed_arith), omega (arith, signed_arith)), (omega arith, omega arith), (omega arith, omega arith)) (pos 0) (omega (arith, signed_arith), omega (arith, signed_arith)) known_days.0

pub last_date : date_of last_day ≡ record { year = 9999; month = 12; day = 31 }
last_date = date_from (record { year = 9999; month = 12; day = 31 }) ((omega (arith, signed_arith), omega (arith, signed_arith)), (omega arith, omega arith), (omega arith, omega arith)) last_day (omega (arith, signed_arith), omega (arith, signed_arith)) days_from_civil-max

-- the parts of a found date, as a date of one's own
pub parts_of : (found : Civil) (day : ℤ) (year : ℕ) → IsDay day → epoch_day found ≡ day → year ≡ unsigned_abs found.year → record { year = year; month = found.month; day = found.day } ≡ date_of day
parts_of found day year is e size =
    let parts = found_is found day is e in
    let same : year ≡ (date_of day).year = size ∙ ap unsigned_abs parts.0 in
    λ i. record { year = same i; month = parts.1 i; day = parts.2 i }

pub date_is : (found : Civil) (date : Date) (day : ℤ) → IsDay day → epoch_day found ≡ day → found.year ≡ pos date.year → found.month ≡ date.month → found.day ≡ date.day → date_of day ≡ date
date_is found date day is e year month dom =
    let size : date.year ≡ unsigned_abs found.year = sym (ap unsigned_abs year) in
    let own : date ≡ record { year = date.year; month = found.month; day = found.day } = λ i. record { year = date.year; month = sym month i; day = sym dom i } in
    sym (own ∙ parts_of found day date.year is e size)

-- the calendar has the date of a day
pub has_date : (date : Date) (day y m d : ℤ) → IsDay day → date_of day ≡ date → y ≡ pos date.year → m ≡ pos date.month → d ≡ pos date.day → IsDate y m d
has_date date day y m d is e year month dom =
    let there : IsCivil date = subst IsCivil e (date_counted day is).0 in
    rw (year, month, dom) ((there.0.0, there.0.1), (omega (arith, signed_arith, there.1), omega (arith, signed_arith, there.1)), (omega (arith, signed_arith, there.2), omega (arith, signed_arith, there.2)))

-- a year of at most four digits, a month and a day of at most two
pub date_short : (day : ℤ) → IsDay day → ((date_of day).year < 10000) × ((date_of day).month < 100) × ((date_of day).day < 100)
date_short day is =
    let there = (date_counted day is).0 in
    (omega (arith, signed_arith, there.0.1), omega (arith, there.1.1), omega (arith, there.2.1, days_in_month_bounds (pos (date_of day).year) (date_of day).month))
