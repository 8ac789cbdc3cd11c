-- How few pages a set has.
use Rattle.std.proofs.Common.{◌≡◌, ℕ, ◌+◌, ◌-◌, ◌*◌, ◌/◌, ◌<◌, ◌≤◌, Bool, true, false, List, [], ◌∷◌, ◌++◌, length, Option, Some, None, refl, sym, ap, subst, inl, inr, ◌∙◌, arith, length-append}
use Rattle.std.specs.Prelude.{nat_lt, nat_le, ◌==◌, if◌then◌else◌}
use Rattle.std.proofs.lemmas.Bool.{le-leb, lt-leb, eq-eqb, ne_eqb, cases_lt, cases_eq}
use Rattle.std.proofs.lemmas.Nat.{le-div}
use Rattle.row_image.specs.declared.layout.CellKind.{CellKind}
use Rattle.row_image.specs.Bytes.{IsPage}
use Rattle.row_image.specs.Layout.{width_of, rows_that_fit}
use Rattle.row_image.proofs.FitLemmas.{row_fits_page}
use Rattle.page_body.specs.View.{PoolTerms}
use Rattle.rebase_pins.specs.Rows.{rows_of_page}
use Rattle.row_sets.specs.Packed.{PageFill, Fill, packed_pages, packed_heaps, count_page, fills_in, heaps_in, ends_in, ends_of, some_of, heaps_here, AllSpent, IsPacked, closed_done}
use Rattle.row_sets.specs.Sets.{with_heap, pages_in, lists_in, joined, AllSetPages}
use Rattle.row_sets.specs.declared.row_set.SetPage.{SetPage}
use Rattle.row_sets.proofs.Packing.{some_is, some_none, heaps_push}

-- the rows of row pages, those that are full, and the others
rows_total : List PageFill → ℕ
rows_total [] = 0
rows_total (p ∷ ps) = p.rows + rows_total ps

full_in : ℕ → List PageFill → ℕ
full_in fit [] = 0
full_in fit (p ∷ ps) = (if nat_le fit p.rows then 1 else 0) + full_in fit ps

-- full pages by the rows, the others by the heap pages
record IsShared (fit : ℕ) (done : List PageFill) : Type 0 where
  rest : ℕ
  pages : length done ≡ full_in fit done + rest
  full : full_in fit done * fit ≤ rows_total done
  heaps : 4 * rest + ends_in fit done ≤ heaps_in done
  ends : ends_in fit done ≤ full_in fit done

some_most : (n : ℕ) → some_of n ≤ n
some_most n = elim (cases_eq n 0) [
  | inl none ↦ let s = some_none n none in omega (arith, s)
  | inr some ↦ let s = some_is n (omega (arith, some)) in omega (arith, s, some)
]

some_one : (n : ℕ) → some_of n ≤ 1
some_one n = elim (cases_eq n 0) [
  | inl none ↦ let s = some_none n none in omega (arith, s)
  | inr some ↦ let s = some_is n (omega (arith, some)) in omega (arith, s)
]

one_times : (a fit : ℕ) → (1 + a) * fit ≡ fit + a * fit
one_times a fit = grind arith

none_times : (fit : ℕ) → 0 * fit ≤ 0
none_times fit = grind arith

shared : (fit : ℕ) (done : List PageFill) → AllSpent fit done → IsShared fit done
unfolding rows_total full_in
shared fit [] all = record { rest = 0; pages = omega arith; full = none_times fit; heaps = omega arith; ends = omega arith }
shared fit (p ∷ ps) all =
    let s = shared fit ps all.1 in
    let pages = s.pages in
    let full = s.full in
    let heaps = s.heaps in
    let ends = s.ends in
    elim (cases_lt p.rows fit) [
      | inl less ↦
          let t : (if nat_le fit p.rows then 1 else 0) ≡ 0 = ap {B = ℕ} (λ b. if b then 1 else 0) (lt-leb fit p.rows less) in
          let e : ends_of fit p ≡ 0 = ap (λ b. if b then some_of p.heaps else 0) (lt-leb fit p.rows less) in
          let four = all.0 less in
          let all_full : full_in fit (p ∷ ps) ≡ full_in fit ps = omega (arith, t) in
          let times = ap (λ (z : ℕ). z * fit) all_full in
          record {
            rest = s.rest + 1;
            pages = omega (arith, pages, t);
            full = omega (arith, full, times);
            heaps = omega (arith, heaps, e, four);
            ends = omega (arith, ends, e);
          }
      | inr enough ↦
          let t : (if nat_le fit p.rows then 1 else 0) ≡ 1 = ap {B = ℕ} (λ b. if b then 1 else 0) (le-leb fit p.rows (omega (arith, enough))) in
          let e : ends_of fit p ≡ some_of p.heaps = ap (λ b. if b then some_of p.heaps else 0) (le-leb fit p.rows (omega (arith, enough))) in
          let m = some_most p.heaps in
          let o = some_one p.heaps in
          let all_full : full_in fit (p ∷ ps) ≡ 1 + full_in fit ps = omega (arith, t) in
          let times = ap (λ (z : ℕ). z * fit) all_full in
          let one = one_times (full_in fit ps) fit in
          record {
            rest = s.rest;
            pages = omega (arith, pages, t);
            full = omega (arith, full, times, one, enough);
            heaps = omega (arith, heaps, e, m);
            ends = omega (arith, ends, e, o, t);
          }
    ]

times_apart : (room a b : ℕ) → b ≤ a → (a - b) * room + room * b ≡ room * a
times_apart room a b more = grind arith

-- so many pages, where their room is within some bytes and others' room
over : (room a b bytes : ℕ) → 0 < room → room * a ≤ bytes + room * b → a ≤ bytes / room + b
over room a b bytes some within = elim (cases_lt a b) [
  | inl less ↦ omega (arith, less)
  | inr more ↦
      let e = times_apart room a b (omega (arith, more)) in
      let d = le-div (a - b) bytes room some (omega (arith, e, within)) in
      omega (arith, d, more)
]

-- the bound, in numbers: row pages that are full, others, and one more; and heap pages
without : (per full rest ends last here heaps : ℕ) → full ≤ per → 4 * rest + ends ≤ heaps → last ≤ 1 → heaps + here ≤ 0 → (full + rest + last) + (heaps + here) ≤ per + 1
without per full rest ends last here heaps f spent one none = omega (arith, f, spent, one, none)

with_heaps : (per full rest ends last here heaps some q : ℕ) → full ≤ per → 4 * rest + ends ≤ heaps → ends ≤ full → last ≤ 1 → heaps + here ≤ q + (ends + some) → some ≤ 1 → some ≤ here → (full + rest + last) + (heaps + here) ≤ 2 * (per + 1 + (q + 1) / 4) + (q + 1)
with_heaps per full rest ends last here heaps some q f spent ended one o s m = omega (arith, f, spent, ended, one, o, s, m)

more_bytes : (x long asked y : ℕ) → long ≤ asked → x ≤ long + asked + y → x ≤ 2 * asked + y
more_bytes x long asked y added within = omega (arith, added, within)

in_all : (per room : ℕ) (rows full rest ends last here heaps long asked : ℕ) → 0 < per → 0 < room → full * per ≤ rows → 4 * rest + ends ≤ heaps → ends ≤ full → last ≤ 1 → long ≤ asked → heaps + here ≤ long → room * (heaps + here) ≤ long + asked + room * (ends + some_of here) → (full + rest + last) + (heaps + here) ≤ (if asked == 0 then rows / per + 1 else 2 * (rows / per + 1 + (2 * asked / room + 1) / 4) + (2 * asked / room + 1))
in_all per room rows full rest ends last here heaps long asked fits holds packed spent ended one added texts paid =
    let f = le-div full rows per fits packed in
    elim (cases_eq asked 0) [
      | inl none ↦
          let w = without (rows / per) full rest ends last here heaps f spent one (omega (arith, added, texts, none)) in
          let e : (if asked == 0 then rows / per + 1 else 2 * (rows / per + 1 + (2 * asked / room + 1) / 4) + (2 * asked / room + 1)) ≡ rows / per + 1 = ap (λ b. if b then rows / per + 1 else 2 * (rows / per + 1 + (2 * asked / room + 1) / 4) + (2 * asked / room + 1)) (eq-eqb asked 0 none) in
          subst (λ (n : ℕ). (full + rest + last) + (heaps + here) ≤ n) (sym e) w
      | inr some ↦
          let o = over room (heaps + here) (ends + some_of here) (2 * asked) holds (more_bytes (room * (heaps + here)) long asked (room * (ends + some_of here)) added paid) in
          let w = with_heaps (rows / per) full rest ends last here heaps (some_of here) (2 * asked / room) f spent ended one o (some_one here) (some_most here) in
          let e : (if asked == 0 then rows / per + 1 else 2 * (rows / per + 1 + (2 * asked / room + 1) / 4) + (2 * asked / room + 1)) ≡ 2 * (rows / per + 1 + (2 * asked / room + 1) / 4) + (2 * asked / room + 1) = ap (λ b. if b then rows / per + 1 else 2 * (rows / per + 1 + (2 * asked / room + 1) / 4) + (2 * asked / room + 1)) (ne_eqb asked 0 some) in
          subst (λ (n : ℕ). (full + rest + last) + (heaps + here) ≤ n) (sym e) w
    ]

-- what pages make a list
with_count : {H : Type 0} (o : Option H) (ps : List H) → length (with_heap o ps) ≡ count_page o + length ps
with_count None ps = omega arith
with_count (Some p) ps = omega arith

pub pages_count : {H : Type 0} (ps : List (SetPage H)) → length (pages_in ps) ≡ length (fills_in ps) + heaps_in (fills_in ps)
pages_count [] = omega arith
pages_count (p ∷ ps) =
    let i = pages_count ps in
    let h = p.page in
    let d = with_count h.heap3 (pages_in ps) in
    let c = with_count h.heap2 (with_heap h.heap3 (pages_in ps)) in
    let b = with_count h.heap1 (with_heap h.heap2 (with_heap h.heap3 (pages_in ps))) in
    let a = with_count h.heap0 (with_heap h.heap1 (with_heap h.heap2 (with_heap h.heap3 (pages_in ps)))) in
    omega (arith, i, a, b, c, d)

rows_count : {Page Pin : Type 0} (t : PoolTerms Page Pin) (kinds : List CellKind) (page : ℕ) (ps : List (SetPage Page)) → AllSetPages t kinds page ps → (length (joined (lists_in t kinds ps)) ≡ rows_total (fills_in ps)) × (length (fills_in ps) ≤ rows_total (fills_in ps))
unfolding rows_total
rows_count t kinds page [] all = (omega arith, omega arith)
rows_count t kinds page (p ∷ ps) all =
    let i = rows_count t kinds page ps all.1 in
    let i0 = i.0 in
    let i1 = i.1 in
    let q = all.0.counted in
    let s = all.0.some in
    let e = length-append (rows_of_page t kinds p.page) (joined (lists_in t kinds ps)) in
    (omega (arith, i0, q, e), omega (arith, i1, s))

rows_push : (done : List PageFill) (p : PageFill) → rows_total (done ++ p ∷ []) ≡ rows_total done + p.rows
unfolding rows_total
rows_push [] p = omega arith
rows_push (q ∷ qs) p = let r = rows_push qs p in omega (arith, r)

-- the row pages that are done, after the open one was
record IsDone (done : List PageFill) (more : ℕ) (after : List PageFill) : Type 0 where
  pages : length after ≤ length done + 1
  rows : rows_total done ≤ rows_total after
  heaps : heaps_in after ≤ heaps_in done + more

done_more : (done : List PageFill) (rows heaps : ℕ) → IsDone done heaps (closed_done done rows heaps)
done_more done rows heaps = by_test (nat_lt 0 rows)
  where
    by_test : (b : Bool) → IsDone done heaps (if b then done ++ record { rows = rows; heaps = heaps } ∷ [] else done)
    by_test true =
        let p : PageFill = record { rows = rows; heaps = heaps } in
        let l = length-append done (p ∷ []) in
        let r = rows_push done p in
        let h = heaps_push done p in
        record { pages = omega (arith, l); rows = omega (arith, r); heaps = omega (arith, h) }
    by_test false = record { pages = omega arith; rows = omega arith; heaps = omega arith }

-- the pages of a writer that was closed
few_done : (f : Fill) (after : List PageFill) → IsPacked f → IsDone f.done (heaps_here f) after → 0 < f.fit → 0 < f.room → length after + heaps_in after ≤ (if f.asked == 0 then rows_total after / f.fit + 1 else 2 * (rows_total after / f.fit + 1 + (2 * f.asked / f.room + 1) / 4) + (2 * f.asked / f.room + 1))
few_done f after is done fits holds =
    let s = shared f.fit f.done is.spent in
    let full = s.full in
    let more = done.rows in
    let pages = s.pages in
    let long = done.pages in
    let heaps = done.heaps in
    let all = in_all f.fit f.room (rows_total after) (full_in f.fit f.done) s.rest (ends_in f.fit f.done) 1 (heaps_here f) (heaps_in f.done) f.long f.asked fits holds (omega (arith, full, more)) s.heaps s.ends (omega arith) is.added is.texts is.paid in
    omega (arith, all, pages, long, heaps)

-- the bound with its divisors given
abbrev at_most : ℕ → ℕ → ℕ → ℕ → ℕ
at_most rows long fit room = if long == 0 then rows / fit + 1 else 2 * (rows / fit + 1 + (2 * long / room + 1) / 4) + (2 * long / room + 1)

heaps_same : (rows long fit room : ℕ) → (if long == 0 then rows / fit + 1 else 2 * (rows / fit + 1 + (if long == 0 then 0 else 2 * long / room + 1) / 4) + (if long == 0 then 0 else 2 * long / room + 1)) ≡ at_most rows long fit room
heaps_same rows long fit room = by_test (long == 0)
  where
    by_test : (b : Bool) → (if b then rows / fit + 1 else 2 * (rows / fit + 1 + (if b then 0 else 2 * long / room + 1) / 4) + (if b then 0 else 2 * long / room + 1)) ≡ (if b then rows / fit + 1 else 2 * (rows / fit + 1 + (2 * long / room + 1) / 4) + (2 * long / room + 1))
    by_test true = refl
    by_test false = refl

packed_is : (rows long width page fit room : ℕ) → 0 < rows → fit ≡ (page - 128) / width → room ≡ page - 64 → packed_pages rows long width page ≡ at_most rows long fit room
unfolding packed_pages
packed_is rows long width page fit room some f r =
    ap (λ b. if b then 0 else (if long == 0 then rows / ((page - 128) / width) + 1 else 2 * (rows / ((page - 128) / width) + 1 + packed_heaps long page / 4) + packed_heaps long page)) (ne_eqb rows 0 (omega (arith, some)))
    ∙ heaps_same rows long ((page - 128) / width) (page - 64)
    ∙ (λ i. at_most rows long (sym f i) (sym r i))

packed_of : (rows pages long width page fit room : ℕ) → (rows ≡ 0 → pages ≡ 0) → fit ≡ (page - 128) / width → room ≡ page - 64 → pages ≤ (if long == 0 then rows / fit + 1 else 2 * (rows / fit + 1 + (2 * long / room + 1) / 4) + (2 * long / room + 1)) → pages ≤ packed_pages rows long width page
packed_of rows pages long width page fit room none f r within = elim (cases_eq rows 0) [
  | inl zero_ ↦ let n = none zero_ in omega (arith, n)
  | inr some ↦ let e = packed_is rows long width page fit room (omega (arith, some)) f r in omega (arith, within, e)
]

fit_is : (kinds : List CellKind) (page : ℕ) → rows_that_fit kinds page ≡ (page - 128) / width_of kinds
unfolding rows_that_fit
fit_is kinds page = refl

no_fills : (done : List PageFill) → length done ≡ 0 → heaps_in done ≡ 0
no_fills [] none = refl
no_fills (p ∷ ps) none = absurd (omega (arith, none))

-- the pages of a set, where its writer packed them before it was closed
pub few_pages : {Page Pin : Type 0} (t : PoolTerms Page Pin) (kinds : List CellKind) (page : ℕ) (ps : List (SetPage Page)) (f : Fill) (rows asked : ℕ) → AllSetPages t kinds page ps → IsPage page → length kinds ≤ 65 → IsPacked f → f.fit ≡ rows_that_fit kinds page → f.room ≡ page - 64 → f.asked ≡ asked → fills_in ps ≡ closed_done f.done f.rows (heaps_here f) → rows ≡ length (joined (lists_in t kinds ps)) → length (pages_in ps) ≤ packed_pages rows asked (width_of kinds) page
few_pages t kinds page ps f rows asked all is few packed fit room asked_is fills counted =
    let c = pages_count ps in
    let r = rows_count t kinds page ps all in
    let r0 = r.0 in
    let r1 = r.1 in
    let fits = row_fits_page kinds page is few in
    let least = is.least in
    let done : IsDone f.done (heaps_here f) (fills_in ps) = subst (IsDone f.done (heaps_here f)) (sym fills) (done_more f.done f.rows (heaps_here f)) in
    let bound = few_done f (fills_in ps) packed done (omega (arith, fits, fit)) (omega (arith, least, room)) in
    let total : rows_total (fills_in ps) ≡ rows = sym r0 ∙ sym counted in
    let now : length (fills_in ps) + heaps_in (fills_in ps) ≤ (if asked == 0 then rows / f.fit + 1 else 2 * (rows / f.fit + 1 + (2 * asked / f.room + 1) / 4) + (2 * asked / f.room + 1)) =
    subst (λ (a : ℕ). length (fills_in ps) + heaps_in (fills_in ps) ≤ (if a == 0 then rows / f.fit + 1 else 2 * (rows / f.fit + 1 + (2 * a / f.room + 1) / 4) + (2 * a / f.room + 1))) asked_is
    (subst (λ (n : ℕ). length (fills_in ps) + heaps_in (fills_in ps) ≤ (if f.asked == 0 then n / f.fit + 1 else 2 * (n / f.fit + 1 + (2 * f.asked / f.room + 1) / 4) + (2 * f.asked / f.room + 1))) total bound) in
    packed_of rows (length (pages_in ps)) asked (width_of kinds) page f.fit f.room
    (λ none. let short : length (fills_in ps) ≡ 0 = omega (arith, r1, total, none) in let h = no_fills (fills_in ps) short in omega (arith, c, short, h))
    (fit ∙ fit_is kinds page) room (omega (arith, c, now))
