-- The page that a command line sets is one.
use Rattle.std.proofs.Common.{◌≡◌, ℕ, ◌≤◌, ◌^◌, Bool, true, false, List, [], ◌∷◌, Option, None, Some, Result, Ok, Err, refl, ap, sym, ◌∙◌, subst, lit≤}
use Rattle.std.specs.Str.{bytes_eq}
use Rattle.std.specs.Prelude.{codes, ◌==◌, if◌then◌else◌, ◌/◌, ◌||◌}
use Rattle.std.specs.Bool.{nat_lt, ⊤}
use Rattle.std.specs.List.{list_any, AllByRecursion}
use Rattle.std.proofs.lemmas.Bool.{eqb-true}
use Rattle.std.proofs.lemmas.Option.{none-some, same_Some}
use Rattle.row_image.specs.Bytes.{IsPage}
use Rattle.run_settings.specs.declared.settings.Settings.{Settings}
use Rattle.run_settings.specs.declared.sizes.Sizes.{Sizes}
use Rattle.run_settings.specs.declared.status.UsageFault.{UsageFault}
use Rattle.run_settings.specs.declared.status.UsageFault.TheVariants.{Words, TooFewFrames, TooManyFrames}
use Rattle.run_settings.specs.Limits.{is_page, least_frames, most_frames}
use Rattle.run_settings.specs.Numbers.{only_if, page_length, sizes_of, thread_count, number_or}
use Rattle.run_settings.specs.Settings.{settings, settings_with, settings_from, settings_at, settings_asked, check_settings}
use Rattle.run_settings.specs.Words.{Word, Asked, asked, ◌>>=◌}

-- ---- the number

pub record IsPower (n k : ℕ) : Type 0 where
  pub is : n ≡ 2 ^ k
  pub least : 4096 ≤ 2 ^ k
  pub most : 2 ^ k ≤ 262144

any_power : (n : ℕ) (ks : List ℕ) → AllByRecursion (λ k. (4096 ≤ 2 ^ k) × (2 ^ k ≤ 262144)) ks → list_any (λ k. n == 2 ^ k) ks ≡ true → (k : ℕ) × IsPower n k
any_power n [] all h = absurd (cc h)
any_power n (k ∷ ks) all h = at (any_power n ks all.1) (n == 2 ^ k) refl h
  where
    at : (list_any (λ k. n == 2 ^ k) ks ≡ true → (k : ℕ) × IsPower n k) → (b : Bool) → (n == 2 ^ k) ≡ b → (b || list_any (λ k. n == 2 ^ k) ks) ≡ true → (k : ℕ) × IsPower n k
    at others true is found = (k, record { is = eqb-true n (2 ^ k) is; least = all.0.0; most = all.0.1 })
    at others false is found = others found

pub page_is_page : (n : ℕ) → is_page n ≡ true → IsPage n
page_is_page n h =
    let p = any_power n (12 ∷ 13 ∷ 14 ∷ 15 ∷ 16 ∷ 17 ∷ 18 ∷ []) ((lit≤ tt, lit≤ tt), ((lit≤ tt, lit≤ tt), ((lit≤ tt, lit≤ tt), ((lit≤ tt, lit≤ tt), ((lit≤ tt, lit≤ tt), ((lit≤ tt, lit≤ tt), ((lit≤ tt, lit≤ tt), tt))))))) h in
    record { least = rw (p.1.is) p.1.least; most = rw (p.1.is) p.1.most; power = (p.0, p.1.is) }

-- ---- the settings

only_case : (n m : ℕ) (b : Bool) → is_page n ≡ b → (if b then Some n else None) ≡ Some m → is_page m ≡ true
only_case n m true is h = subst (λ (x : ℕ). is_page x ≡ true) (same_Some n m h) is
only_case n m false is h = absurd (none-some m h)

of_page : (o : Option ℕ) (m : ℕ) → (o >>= only_if is_page) ≡ Some m → is_page m ≡ true
of_page None m h = absurd (none-some m h)
of_page (Some n) m h = only_case n m (is_page n) refl h

of_sizes : (t l p : Option ℕ) (sizes : Sizes) → ((m : ℕ) → p ≡ Some m → is_page m ≡ true) → (t >>= (λ threads. l >>= (λ limit. p >>= (λ page. Some (record { threads = threads; limit = limit; page = page }))))) ≡ Some sizes → is_page sizes.page ≡ true
of_sizes None l p sizes range h = absurd (none-some sizes h)
of_sizes (Some t) None p sizes range h = absurd (none-some sizes h)
of_sizes (Some t) (Some l) None sizes range h = absurd (none-some sizes h)
of_sizes (Some t) (Some l) (Some page) sizes range h = subst (λ (s : Sizes). is_page s.page ≡ true) (same_Some (record { threads = t; limit = l; page = page }) sizes h) (range page refl)

sizes_page : (a : Asked) (sizes : Sizes) → sizes_of a ≡ Some sizes → is_page sizes.page ≡ true
sizes_page a sizes h = of_sizes (thread_count a.threads) (number_or _ a.limit) (page_length a.page) sizes (λ m is. of_page (number_or _ a.page) m is) h

no_settings : (fault : UsageFault) (s : Settings) → Err fault ≡ Ok s → ⊥
no_settings fault s h = cc h

abbrev page_in : Result Settings UsageFault → ℕ
page_in (Ok s) = s.page
page_in (Err fault) = 0

case_page : (few many : Bool) (e f : UsageFault) (r s : Settings) → (if few then Err e else if many then Err f else Ok r) ≡ Ok s → r.page ≡ s.page
case_page true many e f r s h = absurd (no_settings e s h)
case_page false true e f r s h = absurd (no_settings f s h)
case_page false false e f r s h = ap page_in h

with_page : (frames : ℕ) (script : Word) (sizes : Sizes) (s : Settings) → settings_with frames script sizes ≡ Ok s → s.page ≡ sizes.page
with_page frames script sizes s h = sym (case_page (nat_lt frames least_frames) (nat_lt most_frames frames) (TooFewFrames frames) (TooManyFrames frames) _ s h)

at_page : (script : Word) (o : Option Sizes) (s : Settings) → ((sizes : Sizes) → o ≡ Some sizes → is_page sizes.page ≡ true) → settings_at script o ≡ Ok s → is_page s.page ≡ true
unfolding settings_from
at_page script None s range h = absurd (cc h)
at_page script (Some sizes) s range h = rw (with_page (sizes.limit / sizes.page) script sizes s h) (range sizes refl)

asked_page : (o : Option Asked) (s : Settings) → settings_asked o ≡ Ok s → is_page s.page ≡ true
asked_page None s h = absurd (cc h)
asked_page (Some a) s h = at_page a.script (sizes_of a) s (λ sizes is. sizes_page a sizes is) h

pub settings_page : (words : List Word) (s : Settings) → settings words ≡ Ok s → IsPage s.page
unfolding settings
settings_page words s h = page_is_page s.page (asked_page (asked words) s h)

pub check_page : (words : List Word) (s : Settings) → check_settings words ≡ Ok s → IsPage s.page
unfolding check_settings
check_page [] s h = absurd (no_settings Words s h)
check_page (first ∷ words) s h = at (bytes_eq first (codes "--check")) refl h
  where
    at : (b : Bool) → bytes_eq first (codes "--check") ≡ b → (if b then settings words else Err Words) ≡ Ok s → IsPage s.page
    at true is found = settings_page words s found
    at false is found = absurd (no_settings Words s found)
