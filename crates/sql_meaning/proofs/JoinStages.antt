-- ON as keys, filters and a rest.
use Rattle.std.proofs.Common.{◌≡◌, ℕ, zero, suc, ◌+◌, Bool, true, false, cond, not, ◌&&◌, List, [], ◌∷◌, ◌++◌, length, refl, sym, ap, ap₂, ◌∙◌, arith, Ok, Err, length-append}
use Rattle.std.specs.Prelude.{filter, flat_map, count_by}
use Rattle.std.specs.List.{list_all}
use Rattle.std.proofs.lemmas.List.Sums.{sum_by-cons}
use Rattle.ooc_types.specs.declared.truth.Truth.{Truth as Ternary}
use Rattle.ooc_types.specs.declared.truth.Truth.TheVariants.{Yes, No, Unknown}
use Rattle.ooc_bags.specs.Bags.{SameBag}
use Rattle.sql_expr.specs.Arithmetic.{Meaning}
use Rattle.sql_expr.specs.Logic.{truth_in}
use Rattle.sql_expr.specs.Plain.{IsFaultless}
use Rattle.sql_meaning.specs.Found.{Found, Row, IsSame, clean, collected, and_then}
use Rattle.sql_meaning.specs.Judged.{Verdict, if_true, then_judged, judged, verdict_found, plain_first, kept, Condition, says, filtered}
use Rattle.sql_meaning.specs.From.{Source, is_empty, nulls, pairs, padded, met, joined, from_behind}
use Rattle.sql_meaning.specs.Pool.{AreFaultless}
use Rattle.sql_meaning.specs.Stage.{is_yes, is_true, Side, side_padded, side_met, side_joined, side_of, AreJoinsOf, joined_behind}
use Rattle.sql_meaning.proofs.Free.{Each, each-flat_map, each-pairs, flat_map-each}
use Rattle.ooc_bags.proofs.Bags.{bag-from, bag-trans, bag-flat_map_append}
use Rattle.ooc_bags.proofs.Lists.{flat_map-same, flat_map-map, flat_map-only, flat_map-flat_map}

-- The join of a source is a join by the verdict of ON.
pub met-side : (source : Source) (left : Row) → met source left ≡ side_met (side_of source) left
met-side source left =
    ap (padded source left) (λ i. record {
      rows = flat_map-map (λ row. (verdict_found row (judged (plain_first source.on) row)).rows) (λ right. left ++ right) source.found.rows i;
      faults = flat_map-map (λ row. (verdict_found row (judged (plain_first source.on) row)).faults) (λ right. left ++ right) source.found.rows i;
    })

pub joined-side : (source : Source) (rows : List Row) → joined source rows ≡ side_joined (side_of source) rows
joined-side source rows = λ i. record {
  rows = flat_map-same (λ left. (met source left).rows) (λ left. (side_met (side_of source) left).rows) (λ left. ap (λ (f : Found Row). f.rows) (met-side source left)) rows i;
  faults = flat_map-same (λ left. (met source left).faults) (λ left. (side_met (side_of source) left).faults) (λ left. ap (λ (f : Found Row). f.faults) (met-side source left)) rows i;
}

-- conditions before others
then-judged : Verdict → Verdict → Verdict
then-judged (Err fault) later = Err fault
then-judged (Ok true) later = later
then-judged (Ok false) later = Ok false

if-settled : (b : Bool) → Verdict → Verdict
if-settled b later = cond b later (Ok false)

-- what conditions that can't fault say
all_true : Row → List Condition → Bool
all_true row = list_all (λ condition. is_true (says row condition))

one-judged : (m : Meaning) (b : Bool) (later : Verdict) → IsFaultless m → then_judged m (cond b later (Ok false)) ≡ cond (is_true m && b) later (Ok false)
one-judged (Err fault) b later sure = absurd sure
one-judged (Ok value) b later sure = go (truth_in value)
  where
    go : (truth : Ternary) → if_true truth (cond b later (Ok false)) ≡ cond (is_yes truth && b) later (Ok false)
    go Yes = refl
    go No = refl
    go Unknown = refl

-- Conditions that can't fault are one test; behind it the others judge.
pub judged-faultless : (cs ds : List Condition) (row : Row) → AreFaultless row cs → judged (cs ++ ds) row ≡ cond (list_all (λ condition. is_true (says row condition)) cs) (judged ds row) (Ok false)
judged-faultless [] ds row sure = refl
judged-faultless (c ∷ cs) ds row sure =
    ap (then_judged (says row c)) (judged-faultless cs ds row sure.1)
    ∙ one-judged (says row c) (list_all (λ condition. is_true (says row condition)) cs) (judged ds row) sure.0

-- a test of all items of a list doesn't see their order
count-cons : {A : Type 0} (p : A → Bool) (x : A) (xs : List A) → count_by p (x ∷ xs) ≡ cond (p x) 1 0 + count_by p xs
count-cons p x xs = sum_by-cons (λ y. cond (p y) 1 0) x xs

is_zero : ℕ → Bool
is_zero zero = true
is_zero (suc n) = false

all-none : {A : Type 0} (p : A → Bool) (xs : List A) → list_all p xs ≡ is_zero (count_by (λ x. not (p x)) xs)
unfolding is_zero
all-none p [] = refl
all-none p (x ∷ xs) = elim (p x) as (λ b. p x ≡ b → (b && list_all p xs) ≡ is_zero (count_by (λ x. not (p x)) (x ∷ xs))) [
  | true ↦ λ e.
      let none : cond {A = ℕ} (not (p x)) 1 0 ≡ 0 = ap (λ b. cond (not b) 1 0) e in
      let here = count-cons (λ x. not (p x)) x xs in
      let same : count_by (λ x. not (p x)) xs ≡ count_by (λ x. not (p x)) (x ∷ xs) = omega arith in
      all-none p xs ∙ ap is_zero same
  | false ↦ λ e.
      let one : cond {A = ℕ} (not (p x)) 1 0 ≡ 1 = ap (λ b. cond (not b) 1 0) e in
      let here = count-cons (λ x. not (p x)) x xs in
      let more : count_by (λ x. not (p x)) (x ∷ xs) ≡ suc (count_by (λ x. not (p x)) xs) = omega arith in
      sym (ap is_zero more)
] refl

pub all-SameBag : {A : Type 0} (p : A → Bool) (xs ys : List A) → SameBag xs ys → list_all p xs ≡ list_all p ys
all-SameBag p xs ys same = all-none p xs ∙ ap is_zero (same (λ x. not (p x))) ∙ sym (all-none p ys)

-- Joins whose sides keep the same pairs: `own` tests the right rows before the join, and where it fails the other
-- side's verdict leaves the pair out.
pub side-filtered : (side other : Side) (own : Row → Bool) → other.rows ≡ filter own side.rows → other.width ≡ side.width → other.pads ≡ side.pads
    → (left : Row) → ((r : Row) → own r ≡ true → other.verdict left r ≡ side.verdict left r) → ((r : Row) → own r ≡ false → side.verdict left r ≡ Ok false)
    → side_met other left ≡ side_met side left
side-filtered side other own rows width pads left same out =
    ap₂ (λ w b. cond (b && (is_empty found.rows && is_empty found.faults)) (clean ((left ++ nulls w) ∷ [])) found) width pads
    ∙ ap (side_padded side left) (λ i. record { rows = both (λ found. found.rows) refl i; faults = both (λ found. found.faults) refl i })
  where
    found : Found Row
    found = collected (λ right. verdict_found (left ++ right) (other.verdict left right)) other.rows

    passing : {C : Type 0} (f g : Row → List C) → ((r : Row) → own r ≡ true → f r ≡ g r) → (rs : List Row) → flat_map f (filter own rs) ≡ flat_map g (filter own rs)
    passing f g e [] = refl
    passing f g e (r ∷ rs) = elim (own r) as (λ b. own r ≡ b → flat_map f (cond b (r ∷ filter own rs) (filter own rs)) ≡ flat_map g (cond b (r ∷ filter own rs) (filter own rs))) [
      | true ↦ λ h. ap₂ ◌++◌ (e r h) (passing f g e rs)
      | false ↦ λ h. passing f g e rs
    ] refl

    both : {C : Type 0} (of : Found Row → List C) → of (record { rows = []; faults = [] }) ≡ []
        → flat_map (λ r. of (verdict_found (left ++ r) (other.verdict left r))) other.rows ≡ flat_map (λ r. of (verdict_found (left ++ r) (side.verdict left r))) side.rows
    both of none =
        ap (flat_map (λ r. of (verdict_found (left ++ r) (other.verdict left r)))) rows
        ∙ passing (λ r. of (verdict_found (left ++ r) (other.verdict left r))) (λ r. of (verdict_found (left ++ r) (side.verdict left r)))
        (λ r h. ap (λ verdict. of (verdict_found (left ++ r) verdict)) (same r h)) side.rows
        ∙ flat_map-only own (λ r. of (verdict_found (left ++ r) (side.verdict left r))) (λ r h. ap (λ verdict. of (verdict_found (left ++ r) verdict)) (out r h) ∙ none) side.rows

judged-over : (cs ds : List Condition) (row : Row) → judged (cs ++ ds) row ≡ then-judged (judged cs row) (judged ds row)
unfolding then-judged
judged-over [] ds row = refl
judged-over (c ∷ cs) ds row = ap (then_judged (says row c)) (judged-over cs ds row) ∙ go (says row c)
  where
    turn : (truth : Ternary) → if_true truth (then-judged (judged cs row) (judged ds row)) ≡ then-judged (if_true truth (judged cs row)) (judged ds row)
    turn Yes = refl
    turn No = refl
    turn Unknown = refl

    go : (m : Meaning) → then_judged m (then-judged (judged cs row) (judged ds row)) ≡ then-judged (then_judged m (judged cs row)) (judged ds row)
    go (Err fault) = refl
    go (Ok value) = turn (truth_in value)

-- Conditions act on the rows that the earlier ones kept.
pub filtered-over : (cs ds : List Condition) (rows : List Row) → IsSame (filtered (cs ++ ds) rows) (and_then (filtered cs rows) (filtered ds))
unfolding then-judged
filtered-over cs ds rows = record {
  rows = bag-from (filtered (cs ++ ds) rows).rows (and_then (filtered cs rows) (filtered ds)).rows
      (flat_map-same (λ row. (verdict_found row (judged (cs ++ ds) row)).rows) (λ row. flat_map (λ r. (verdict_found r (judged ds r)).rows) (verdict_found row (judged cs row)).rows)
      (λ row. ap (λ verdict. (verdict_found row verdict).rows) (judged-over cs ds row) ∙ kept_rows row (judged cs row)) rows
      ∙ sym (flat_map-flat_map (λ r. (verdict_found r (judged ds r)).rows) (λ row. (verdict_found row (judged cs row)).rows) rows));
  faults = bag-trans (filtered (cs ++ ds) rows).faults
      (flat_map (λ row. (verdict_found row (judged cs row)).faults ++ flat_map (λ r. (verdict_found r (judged ds r)).faults) (verdict_found row (judged cs row)).rows) rows)
      (and_then (filtered cs rows) (filtered ds)).faults
      (bag-from (filtered (cs ++ ds) rows).faults (flat_map (λ row. (verdict_found row (judged cs row)).faults ++ flat_map (λ r. (verdict_found r (judged ds r)).faults) (verdict_found row (judged cs row)).rows) rows)
      (flat_map-same (λ row. (verdict_found row (judged (cs ++ ds) row)).faults) (λ row. (verdict_found row (judged cs row)).faults ++ flat_map (λ r. (verdict_found r (judged ds r)).faults) (verdict_found row (judged cs row)).rows)
      (λ row. ap (λ verdict. (verdict_found row verdict).faults) (judged-over cs ds row) ∙ kept_faults row (judged cs row)) rows))
      (bag-trans (flat_map (λ row. (verdict_found row (judged cs row)).faults ++ flat_map (λ r. (verdict_found r (judged ds r)).faults) (verdict_found row (judged cs row)).rows) rows)
      (flat_map (λ row. (verdict_found row (judged cs row)).faults) rows ++ flat_map (λ row. flat_map (λ r. (verdict_found r (judged ds r)).faults) (verdict_found row (judged cs row)).rows) rows)
      (and_then (filtered cs rows) (filtered ds)).faults
      (bag-flat_map_append (λ row. (verdict_found row (judged cs row)).faults) (λ row. flat_map (λ r. (verdict_found r (judged ds r)).faults) (verdict_found row (judged cs row)).rows) rows)
      (bag-from (flat_map (λ row. (verdict_found row (judged cs row)).faults) rows ++ flat_map (λ row. flat_map (λ r. (verdict_found r (judged ds r)).faults) (verdict_found row (judged cs row)).rows) rows)
      (and_then (filtered cs rows) (filtered ds)).faults
      (ap (λ l. flat_map (λ row. (verdict_found row (judged cs row)).faults) rows ++ l) (sym (flat_map-flat_map (λ r. (verdict_found r (judged ds r)).faults) (λ row. (verdict_found row (judged cs row)).rows) rows)))));
}
  where
    one : (xs : List Row) → xs ≡ xs ++ []
    one [] = refl
    one (x ∷ xs) = ap (λ l. x ∷ l) (one xs)

    none : {A : Type 0} (xs : List A) → xs ≡ xs ++ []
    none [] = refl
    none (x ∷ xs) = ap (λ l. x ∷ l) (none xs)

    kept_rows : (row : Row) (verdict : Verdict) → (verdict_found row (then-judged verdict (judged ds row))).rows ≡ flat_map (λ r. (verdict_found r (judged ds r)).rows) (verdict_found row verdict).rows
    kept_rows row (Err fault) = refl
    kept_rows row (Ok true) = one (verdict_found row (judged ds row)).rows
    kept_rows row (Ok false) = refl

    kept_faults : (row : Row) (verdict : Verdict) → (verdict_found row (then-judged verdict (judged ds row))).faults ≡ (verdict_found row verdict).faults ++ flat_map (λ r. (verdict_found r (judged ds r)).faults) (verdict_found row verdict).rows
    kept_faults row (Err fault) = refl
    kept_faults row (Ok true) = none (verdict_found row (judged ds row)).faults
    kept_faults row (Ok false) = refl

-- the rows of a join have the columns of both sides
each-verdict : (P : Row → Type 0) (row : Row) (verdict : Verdict) → P row → Each P (verdict_found row verdict).rows
each-verdict P row (Err fault) h = tt
each-verdict P row (Ok true) h = (h, tt)
each-verdict P row (Ok false) h = tt

length-nulls : (n : ℕ) → length (nulls n) ≡ n
length-nulls zero = refl
length-nulls (suc n) = ap suc (length-nulls n)

each-met : (at : ℕ) (source : Source) → Each (λ row. length row ≡ source.width) source.found.rows → (left : Row) → length left ≡ at → Each (λ row. length row ≡ at + source.width) (met source left).rows
each-met at source wide left long =
    let inner : Found Row = kept source.on (pairs left source.found.rows) in
    let rows : Each (λ row. length row ≡ at + source.width) inner.rows =
    each-flat_map (λ row. length row ≡ at + source.width) (λ row. length row ≡ at + source.width) (λ row. (verdict_found row (judged (plain_first source.on) row)).rows)
    (λ row h. each-verdict (λ row. length row ≡ at + source.width) row (judged (plain_first source.on) row) h) (pairs left source.found.rows) (each-pairs at source.width source.found.rows wide left long) in
    let none = length-nulls source.width in
    let both = length-append left (nulls source.width) in
    elim (source.pads && (is_empty inner.rows && is_empty inner.faults)) as (λ b. Each (λ row. length row ≡ at + source.width) (cond b (clean ((left ++ nulls source.width) ∷ [])) inner).rows) [
      | true ↦ (omega arith, tt)
      | false ↦ rows
    ]

-- The joins of a FROM in written order, with keys, filters and rests in place of ON.
pub joins-mean : (at : ℕ) (sources : List Source) (sides : List Side) → AreJoinsOf at sources sides → (rows : List Row) → Each (λ row. length row ≡ at) rows
    → joined_behind sides rows ≡ from_behind sources rows
joins-mean at [] [] same rows all = refl
joins-mean at [] (side ∷ sides) same rows all = absurd same
joins-mean at (source ∷ sources) [] same rows all = absurd same
joins-mean at (source ∷ sources) (side ∷ sides) same rows all =
    let one = same.0 in
    let each : (left : Row) → length left ≡ at → side_met side left ≡ met source left =
    λ left long. side-filtered (side_of source) side one.own one.rows one.width one.pads left (λ r h. one.same left r long h) (λ r h. one.out left r long h) ∙ sym (met-side source left) in
    let first : side_joined side rows ≡ joined source rows = λ i. record {
      rows = flat_map-each (λ row. length row ≡ at) (λ left. (side_met side left).rows) (λ left. (met source left).rows) (λ left long. ap (λ (f : Found Row). f.rows) (each left long)) rows all i;
      faults = flat_map-each (λ row. length row ≡ at) (λ left. (side_met side left).faults) (λ left. (met source left).faults) (λ left long. ap (λ (f : Found Row). f.faults) (each left long)) rows all i;
    } in
    let wide : Each (λ row. length row ≡ at + source.width) (joined source rows).rows =
    each-flat_map (λ row. length row ≡ at) (λ row. length row ≡ at + source.width) (λ left. (met source left).rows) (each-met at source one.wide) rows all in
    ap (λ (found : Found Row). and_then found (joined_behind sides)) first
    ∙ ap (λ (rest : Found Row). (record { rows = rest.rows; faults = (joined source rows).faults ++ rest.faults })) (joins-mean (at + source.width) sources sides same.1 (joined source rows).rows wide)
