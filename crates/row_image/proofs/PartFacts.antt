-- What the rules on parts say, and which part a row has.
use Rattle.std.proofs.Common.{◌≡◌, ℕ, zero, suc, ◌+◌, ◌-◌, ◌%◌, ◌^◌, ◌<◌, ◌≤◌, Bool, true, false, cond, eqb, leb, ltb, List, [], ◌∷◌, length, map, None, refl, sym, ap, ◌∙◌, arith, inl, inr}
use Rattle.std.specs.Prelude.{◌&&◌, find, unwrap_or, nat_lt}
use Rattle.std.specs.List.{range_with_len, sum_by}
use Rattle.std.proofs.lemmas.Bool.{eqb-true, leb-true, eq-eqb, ne_eqb, le-leb, lt-ltb, le-ltb, ltb-true, and_parts, and_from, cases_eq, cases_lt}
use Rattle.std.proofs.lemmas.List.FromFn.{sum_by-map-range_with_len_more}
use Rattle.row_image.specs.declared.image.Part.{Part}
use Rattle.row_image.specs.Image.{row_count, part_count, part_at, parts_of, part_for, no_heap, no_part}
use Rattle.row_image.specs.Rules.{first_damage, first_rule, part_rows_rule, base_rule, part_rules, rows_before}
use Rattle.row_image.proofs.RuleLemmas.{sound_cons, cons_sound}
use Rattle.row_image.proofs.ListLemmas.{find_at, map_same}
use Rattle.row_image.proofs.PartLemmas.{parts_length, parts_at}

-- the rule on a base
abbrev pub HasBase : ℕ → Part → Type 0
HasBase page part = cond (eqb part.heap no_heap) (eqb part.base 0) (eqb (part.base % page) 0 && ltb part.base (2 ^ 48)) ≡ true

pub record PartFacts (image : List ℕ) (k : ℕ) : Type 0 where
  pub first : (part_at image k).first ≡ rows_before image k
  pub some : 1 ≤ (part_at image k).rows
  pub most : rows_before image k + (part_at image k).rows ≤ row_count image
  pub whole : k + 1 ≡ part_count image → rows_before image k + (part_at image k).rows ≡ row_count image
  pub base : HasBase (length image) (part_at image k)

rows_left : (last : Bool) (rows left before all : ℕ) → left ≡ all - before → 1 ≤ rows → cond last (eqb rows left) (leb rows left) ≡ true → before + rows ≤ all
rows_left true rows left before all e some h = omega (arith, eqb-true rows left h)
rows_left false rows left before all e some h = omega (arith, leb-true rows left h)

pub facts_of : (image : List ℕ) (k : ℕ) → first_damage (part_rules image k) ≡ None → PartFacts image k
unfolding part_rules
facts_of image k h =
    let first = sound_cons (first_rule image k) (part_rows_rule image k ∷ base_rule image k ∷ []) h in
    let second = sound_cons (part_rows_rule image k) (base_rule image k ∷ []) first.1 in
    let third = sound_cons (base_rule image k) [] second.1 in
    let before = rows_before image k in
    let rows = (part_at image k).rows in
    let both = and_parts (leb 1 rows) (cond (eqb (k + 1) (part_count image)) (eqb rows (row_count image - before)) (leb rows (row_count image - before))) second.0 in
    let some = leb-true 1 rows both.0 in
    let most = rows_left (eqb (k + 1) (part_count image)) rows (row_count image - before) before (row_count image) refl some both.1 in
    record {
      first = eqb-true _ _ first.0;
      some = some;
      most = most;
      whole = λ e.
          let all : cond true (eqb rows (row_count image - before)) (leb rows (row_count image - before)) ≡ true = ap (λ b. cond b (eqb rows (row_count image - before)) (leb rows (row_count image - before))) (sym (eq-eqb (k + 1) (part_count image) e)) ∙ both.1 in
          omega (arith, eqb-true rows (row_count image - before) all);
      base = third.0;
    }

pub facts_sound : (image : List ℕ) (k : ℕ) → PartFacts image k → first_damage (part_rules image k) ≡ None
unfolding part_rules
facts_sound image k f =
    let before = rows_before image k in
    let rows = (part_at image k).rows in
    let counted : cond (eqb (k + 1) (part_count image)) (eqb rows (row_count image - before)) (leb rows (row_count image - before)) ≡ true =
    elim (cases_eq (k + 1) (part_count image)) [
      | inl e ↦ ap (λ b. cond b (eqb rows (row_count image - before)) (leb rows (row_count image - before))) (eq-eqb (k + 1) (part_count image) e) ∙ eq-eqb rows (row_count image - before) (omega (arith, f.whole e))
      | inr ne ↦ ap (λ b. cond b (eqb rows (row_count image - before)) (leb rows (row_count image - before))) (ne_eqb (k + 1) (part_count image) ne) ∙ le-leb rows (row_count image - before) (omega (arith, f.most))
    ] in
    cons_sound (first_rule image k) (part_rows_rule image k ∷ base_rule image k ∷ []) (eq-eqb _ _ f.first)
    (cons_sound (part_rows_rule image k) (base_rule image k ∷ []) (and_from _ _ (le-leb 1 rows f.some) counted)
    (cons_sound (base_rule image k) [] f.base refl))

pub before_none : (image : List ℕ) → rows_before image 0 ≡ 0
unfolding rows_before
before_none image = refl

pub before_next : (image : List ℕ) (k : ℕ) → rows_before image (k + 1) ≡ rows_before image k + (part_at image k).rows
unfolding rows_before
before_next image k = sum_by-map-range_with_len_more (λ p. p.rows) (λ j. part_at image j) 0 k k (omega arith)

pub before_same : (old new : List ℕ) (k : ℕ) → ((j : ℕ) → j < k → part_at new j ≡ part_at old j) → rows_before new k ≡ rows_before old k
unfolding rows_before
before_same old new k h = ap (sum_by (λ p. p.rows)) (map_same (λ j. part_at new j) (λ j. part_at old j) k h)

pub before_mono : (image : List ℕ) (i j : ℕ) → i ≤ j → rows_before image i ≤ rows_before image j
before_mono image i zero h = let e : i ≡ 0 = omega arith in omega (arith, ap (rows_before image) e)
before_mono image i (suc j) h =
    elim (cases_eq i (suc j)) [
      | inl e ↦ omega (arith, ap (rows_before image) e)
      | inr ne ↦ omega (arith, before_mono image i j (omega arith), before_next image j, ap (rows_before image) (let e : j + 1 ≡ suc j = omega arith in e))
    ]

-- the part of a row is the one in whose rows it stands
pub part_for_is : (image : List ℕ) (k row : ℕ) → ((j : ℕ) → j < part_count image → PartFacts image j) → k < part_count image → rows_before image k ≤ row → row < rows_before image k + (part_at image k).rows → part_for image row ≡ part_at image k
unfolding part_for
part_for_is image k row facts inside low high =
    let found = find_at (λ part. nat_lt row (part.first + part.rows)) (parts_of image) k no_part (omega (arith, parts_length image))
    (λ j less.
    let at = parts_at image j no_part (omega arith) in
    ap (λ part. nat_lt row (part.first + part.rows)) at ∙ le-ltb row ((part_at image j).first + (part_at image j).rows) (omega (arith, (facts j (omega arith)).first, before_next image j, before_mono image (j + 1) k (omega arith))))
    (ap (λ part. nat_lt row (part.first + part.rows)) (parts_at image k no_part inside) ∙ lt-ltb row ((part_at image k).first + (part_at image k).rows) (omega (arith, (facts k inside).first))) in
    ap (λ o. unwrap_or o no_part) found ∙ parts_at image k no_part inside

-- some part has the row
pub record Covers (image : List ℕ) (n row : ℕ) : Type 0 where
  pub part : ℕ
  pub inside : part < n
  pub low : rows_before image part ≤ row
  pub high : row < rows_before image part + (part_at image part).rows

pub covered : (image : List ℕ) (n row : ℕ) → row < rows_before image n → Covers image n row
covered image zero row h = absurd (omega (arith, before_none image))
covered image (suc n) row h =
    elim (cases_lt row (rows_before image n)) [
      | inl less ↦ let c = covered image n row less in record { part = c.part; inside = omega (arith, c.inside); low = c.low; high = c.high }
      | inr more ↦ record { part = n; inside = omega arith; low = more; high = omega (arith, before_next image n, ap (rows_before image) (let e : n + 1 ≡ suc n = omega arith in e)) }
    ]

pub part_for_none : (image : List ℕ) (row : ℕ) → part_count image ≡ 0 → part_for image row ≡ no_part
unfolding part_for parts_of
part_for_none image row none = ap (λ n. unwrap_or (find (λ part. nat_lt row (part.first + part.rows)) (map (λ part. part_at image part) (range_with_len 0 n))) no_part) none

pub base_low : (page : ℕ) (part : Part) → HasBase page part → part.base < 2 ^ 48
base_low page part h = by_heap (eqb part.heap no_heap) h
  where
    by_heap : (none : Bool) → cond none (eqb part.base 0) (eqb (part.base % page) 0 && ltb part.base (2 ^ 48)) ≡ true → part.base < 2 ^ 48
    by_heap true e = omega (arith, eqb-true part.base 0 e)
    by_heap false e = ltb-true part.base (2 ^ 48) (and_parts (eqb (part.base % page) 0) (ltb part.base (2 ^ 48)) e).1
