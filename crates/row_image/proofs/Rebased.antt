-- A page one of whose heap pages moved: it is accepted, and says the same.
use Rattle.std.proofs.Common.{◌≡◌, ◌≢◌, ℕ, zero, suc, ◌+◌, ◌*◌, ◌%◌, ◌^◌, ◌<◌, ◌≤◌, true, not, cond, eqb, ltb, List, [], length, get_or, set, None, sym, ap, subst, ◌∙◌, arith, inl, inr}
use Rattle.std.specs.Prelude.{◌&&◌, slice_index}
use Rattle.std.proofs.lemmas.Bool.{eq-eqb, ne_eqb, lt-ltb, ltb-true, not-true, and_from, and_parts, cases_eq, cases_lt, cases_order}
use Rattle.std.proofs.lemmas.List.{same_lists, length-set, get_or-set_same, get_or-set_other}
use Rattle.row_image.specs.declared.layout.CellKind.{CellKind}
use Rattle.row_image.specs.declared.layout.CellKind.TheVariants.{Bit, Text}
use Rattle.row_image.specs.declared.image.Part.{Part}
use Rattle.row_image.specs.Bytes.{number_at, ChangesOnly}
use Rattle.row_image.specs.Layout.{is_text, offset_of, width_of, row_place}
use Rattle.row_image.specs.Image.{row_count, part_count, is_null, part_at, parts_of, part_for, no_heap}
use Rattle.row_image.specs.Rules.{first_damage, text_limit, kind_rules, cell_rules, rows_before}
use Rattle.row_image.specs.Flat.{is_long_in}
use Rattle.row_image.specs.Moves.{based, MovesRow, IsReached}
use Rattle.row_image.proofs.ByteLemmas.{SameOn, number_at_same, same_after}
use Rattle.row_image.proofs.LayoutLemmas.{first_place}
use Rattle.row_image.proofs.AcceptedLemmas.{Sound}
use Rattle.row_image.proofs.CellRuleLemmas.{AddressFits, long_rules}
use Rattle.row_image.proofs.PartLemmas.{part_at_same, parts_length, parts_at}
use Rattle.row_image.proofs.PartFacts.{HasBase, PartFacts, before_none, before_next, before_mono, part_for_is, covered}
use Rattle.row_image.proofs.GrownLemmas.{all_rows}
use Rattle.row_image.proofs.WrittenLemmas.{rows_apart}
use Rattle.row_image.proofs.MoveLemmas.{long_kind, row_moves_then}

-- what a move of a part's heap page leaves
pub record Rebased (kinds : List CellKind) (old new : List ℕ) (part to : ℕ) : Type 0 where
  pub long : length new ≡ length old
  pub before : (k : ℕ) → k < 48 + 24 * part → slice_index new k ≡ slice_index old k
  pub between : (k : ℕ) → 56 + 24 * part ≤ k → k < row_place kinds (part_at old part).first → slice_index new k ≡ slice_index old k
  pub after : (k : ℕ) → row_place kinds ((part_at old part).first + (part_at old part).rows) ≤ k → slice_index new k ≡ slice_index old k
  pub rows : (row : ℕ) → (part_at old part).first ≤ row → row < (part_at old part).first + (part_at old part).rows → MovesRow kinds old new (row_place kinds row) (part_at old part).base to
  pub base : number_at new (48 + 24 * part) 8 ≡ to

pub row_place_mono : (kinds : List CellKind) (row other : ℕ) → row ≤ other → row_place kinds row ≤ row_place kinds other
row_place_mono kinds row other h =
    elim (cases_eq row other) [
      | inl e ↦ omega (arith, ap (row_place kinds) e)
      | inr ne ↦ omega (arith, rows_apart kinds row other (omega arith))
    ]

-- an address of a part's row is not below its base, and not far above it
pub long_fits : (kinds : List CellKind) (image : List ℕ) (row column : ℕ) → first_damage (cell_rules kinds image row column) ≡ None → is_long_in kinds image (row_place kinds row) column ≡ true → (12 < number_at image (row_place kinds row + offset_of kinds column) 4) × (number_at image (row_place kinds row + offset_of kinds column) 4 ≤ text_limit (length image)) × AddressFits (length image) (number_at image (row_place kinds row + offset_of kinds column) 4) (number_at image (row_place kinds row + offset_of kinds column + 8) 8) (part_for image row)
unfolding cell_rules is_long_in
long_fits kinds image row column h long =
    let at = row_place kinds row in
    let place = at + offset_of kinds column in
    let kind = get_or kinds column Bit in
    let size = ltb 12 (number_at image place 4) in
    let both = and_parts (not (is_null image at column)) (is_text kind && size) long in
    let text : kind ≡ Text = long_kind kinds image at column long in
    let more : 12 < number_at image place 4 = ltb-true 12 (number_at image place 4) (and_parts (is_text kind) size both.1).1 in
    let rules : first_damage (kind_rules kind image place (part_for image row)) ≡ None = sym (ap (λ b. first_damage (cond b [] (kind_rules kind image place (part_for image row)))) (not-true (is_null image at column) both.0)) ∙ h in
    let P : CellKind → Type 0 = λ k. first_damage (kind_rules k image place (part_for image row)) ≡ None in
    let facts = long_rules image place (part_for image row) more (subst P text rules) in
    (more, facts.0, facts.1)

pub reached : (kinds : List CellKind) (image : List ℕ) (part row column : ℕ) → Sound kinds image → ((k : ℕ) → k < part_count image → PartFacts image k) → length image ≤ 262144 → part < part_count image → (part_at image part).first ≤ row → row < (part_at image part).first + (part_at image part).rows → column < length kinds → IsReached kinds image (row_place kinds row) (part_at image part).base column
reached kinds image part row column s facts small inside low high c =
    let f = facts part inside in
    let is = part_for_is image part row facts inside (omega (arith, f.first)) (omega (arith, f.first)) in
    let below : row < row_count image = omega (arith, f.first, f.most) in
    record {
      low = λ long. let a = (long_fits kinds image row column (s.cell row column below c) long).2 in omega (arith, a.low, ap (λ p. p.base) is);
      high = λ long. let a = (long_fits kinds image row column (s.cell row column below c) long).2 in omega (arith, a.high, ap (λ p. p.base) is);
    }

-- the entries of the other parts are as they were
pub other_parts : (kinds : List CellKind) (old new : List ℕ) (part to j : ℕ) → Rebased kinds old new part to → part < 4 → j < 4 → j ≢ part → part_at new j ≡ part_at old j
other_parts kinds old new part to j r inside j_inside ne =
    elim (cases_lt j part) [
      | inl less ↦ part_at_same old new j (32 + 24 * j) (56 + 24 * j) (record { long = r.long; same = λ k low high. r.before k (omega arith) }) (omega arith) (omega arith)
      | inr more ↦ part_at_same old new j (32 + 24 * j) (56 + 24 * j) (record { long = r.long; same = λ k low high. r.between k (omega arith) (omega (arith, first_place kinds (part_at old part).first)) }) (omega arith) (omega arith)
    ]

pub moved_part : (kinds : List CellKind) (old new : List ℕ) (part to : ℕ) → Rebased kinds old new part to → part_at new part ≡ based (part_at old part) to
unfolding part_at
moved_part kinds old new part to r =
    let same : SameOn old new (32 + 24 * part) (48 + 24 * part) = record { long = r.long; same = λ k low high. r.before k high } in
    let first = number_at_same old new (32 + 24 * part) (48 + 24 * part) same (32 + 24 * part) 4 (omega arith) (omega arith) in
    let rows = number_at_same old new (32 + 24 * part) (48 + 24 * part) same (32 + 24 * part + 4) 4 (omega arith) (omega arith) in
    let heap = number_at_same old new (32 + 24 * part) (48 + 24 * part) same (32 + 24 * part + 8) 4 (omega arith) (omega arith) in
    let base = ap (λ at. number_at new at 8) (let e : 32 + 24 * part + 16 ≡ 48 + 24 * part = omega arith in e) ∙ r.base in
    λ i. record { first = first i; rows = rows i; heap = heap i; base = base i }

head_same : (kinds : List CellKind) (old new : List ℕ) (part to : ℕ) → Rebased kinds old new part to → SameOn old new 0 32
head_same kinds old new part to r = record { long = r.long; same = λ k low high. r.before k (omega arith) }

pub counts_same : (kinds : List CellKind) (old new : List ℕ) (part to : ℕ) → Rebased kinds old new part to → (row_count new ≡ row_count old) × (part_count new ≡ part_count old)
counts_same kinds old new part to r =
    let h = head_same kinds old new part to r in
    (number_at_same old new 0 32 h 8 4 (omega arith) (omega arith), number_at_same old new 0 32 h 12 4 (omega arith) (omega arith))

-- first and rows of each part are as they were
same_rows : (kinds : List CellKind) (old new : List ℕ) (part to j : ℕ) → Rebased kinds old new part to → part < 4 → j < 4 → ((part_at new j).first ≡ (part_at old j).first) × ((part_at new j).rows ≡ (part_at old j).rows)
same_rows kinds old new part to j r inside j_inside =
    elim (cases_eq j part) [
      | inl e ↦ let m = ap (part_at new) e ∙ moved_part kinds old new part to r in
          (ap (λ p. p.first) m ∙ ap (λ k. (part_at old k).first) (sym e), ap (λ p. p.rows) m ∙ ap (λ k. (part_at old k).rows) (sym e))
      | inr ne ↦ let m = other_parts kinds old new part to j r inside j_inside ne in (ap (λ p. p.first) m, ap (λ p. p.rows) m)
    ]

same_before_part : (kinds : List CellKind) (old new : List ℕ) (part to k : ℕ) → Rebased kinds old new part to → part < 4 → k ≤ 4 → rows_before new k ≡ rows_before old k
same_before_part kinds old new part to zero r inside most = before_none new ∙ sym (before_none old)
same_before_part kinds old new part to (suc k) r inside most =
    let e : suc k ≡ k + 1 = omega arith in
    omega (arith, ap (rows_before new) e, ap (rows_before old) e, before_next new k, before_next old k, same_before_part kinds old new part to k r inside (omega arith), (same_rows kinds old new part to k r inside (omega arith)).1)

moved_base : (page : ℕ) (part : Part) (to : ℕ) → part.heap ≢ no_heap → to % page ≡ 0 → to < 2 ^ 48 → HasBase page (based part to)
moved_base page part to heap aligned low =
    ap (λ b. cond b (eqb to 0) (eqb (to % page) 0 && ltb to (2 ^ 48))) (ne_eqb part.heap no_heap heap)
    ∙ and_from (eqb (to % page) 0) (ltb to (2 ^ 48)) (eq-eqb (to % page) 0 aligned) (lt-ltb to (2 ^ 48) low)

pub moved_facts : (kinds : List CellKind) (old new : List ℕ) (part to : ℕ) → Rebased kinds old new part to → part_count old ≤ 4 → part < part_count old → (part_at old part).heap ≢ no_heap → to % length old ≡ 0 → to < 2 ^ 48 → ((k : ℕ) → k < part_count old → PartFacts old k) → (k : ℕ) → k < part_count new → PartFacts new k
moved_facts kinds old new part to r few inside heap aligned low facts k k_inside =
    let counts = counts_same kinds old new part to r in
    let f = facts k (omega (arith, counts.1)) in
    let rows = same_rows kinds old new part to k r (omega arith) (omega (arith, counts.1)) in
    let before = same_before_part kinds old new part to k r (omega arith) (omega (arith, counts.1)) in
    let Q : ℕ → Type 0 = λ page. HasBase page (part_at new k) in
    let P : Part → Type 0 = λ p. HasBase (length old) p in
    record {
      first = rows.0 ∙ f.first ∙ sym before;
      some = omega (arith, rows.1, f.some);
      most = omega (arith, rows.1, before, counts.0, f.most);
      whole = λ e. omega (arith, rows.1, before, counts.0, f.whole (omega (arith, counts.1, e)));
      base = subst Q (sym r.long) (elim (cases_eq k part) [
        | inl e ↦ subst P (sym (ap (part_at new) e ∙ moved_part kinds old new part to r)) (moved_base (length old) (part_at old part) to heap aligned low)
        | inr ne ↦ subst P (sym (other_parts kinds old new part to k r (omega arith) (omega (arith, counts.1)) ne)) f.base
      ]);
    }

-- a row is one of the part, or its bytes are as they were and so is its part's heap page
pub data RowAfter (kinds : List CellKind) (old new : List ℕ) (part to row : ℕ) : Type 0 where
  moves : (part_at old part).first ≤ row → row < (part_at old part).first + (part_at old part).rows → part_for old row ≡ part_at old part → part_for new row ≡ based (part_at old part) to → RowAfter kinds old new part to row
  stays : SameOn old new (row_place kinds row) (row_place kinds row + width_of kinds) → part_for new row ≡ part_for old row → RowAfter kinds old new part to row

pub row_after : (kinds : List CellKind) (old new : List ℕ) (part to row : ℕ) → Rebased kinds old new part to → part_count old ≤ 4 → part < part_count old → (0 < row_count old → 0 < part_count old) → ((k : ℕ) → k < part_count old → PartFacts old k) → ((k : ℕ) → k < part_count new → PartFacts new k) → row < row_count old → RowAfter kinds old new part to row
row_after kinds old new part to row r few inside some facts facts' below =
    let counts = counts_same kinds old new part to r in
    let c = covered old (part_count old) row (omega (arith, all_rows old some facts)) in
    let was = part_for_is old c.part row facts c.inside c.low c.high in
    let before = same_before_part kinds old new part to c.part r (omega arith) (omega (arith, c.inside)) in
    let rows = same_rows kinds old new part to c.part r (omega arith) (omega (arith, c.inside)) in
    let now = part_for_is new c.part row facts' (omega (arith, c.inside, counts.1)) (omega (arith, before, c.low)) (omega (arith, before, rows.1, c.high)) in
    let f = facts part inside in
    elim (cases_order c.part part) [
      | inl e ↦ let first = ap (λ k. rows_before old k) e in let count = ap (λ k. (part_at old k).rows) e in
          moves (omega (arith, f.first, first, c.low)) (omega (arith, f.first, first, count, c.high)) (was ∙ ap (part_at old) e) (now ∙ ap (part_at new) e ∙ moved_part kinds old new part to r)
      | inr differs ↦ elim differs [
        | inl less ↦
            let early : row < (part_at old part).first = omega (arith, f.first, c.high, before_next old c.part, before_mono old (c.part + 1) part (omega arith)) in
            stays (record { long = r.long; same = λ k low high. r.between k (omega (arith, first_place kinds row, low)) (omega (arith, rows_apart kinds row (part_at old part).first early)) })
            (now ∙ other_parts kinds old new part to c.part r (omega arith) (omega (arith, c.inside)) (λ e. absurd (omega (arith, e, less))) ∙ sym was)
        | inr more ↦
            let late : (part_at old part).first + (part_at old part).rows ≤ row = omega (arith, f.first, c.low, before_next old part, before_mono old (part + 1) c.part (omega arith)) in
            stays (record { long = r.long; same = λ k low high. r.after k (omega (arith, row_place_mono kinds ((part_at old part).first + (part_at old part).rows) row late)) })
            (now ∙ other_parts kinds old new part to c.part r (omega arith) (omega (arith, c.inside)) (λ e. absurd (omega (arith, e, more))) ∙ sym was)
      ]
    ]

-- the rows of a part were moved, and then its base was written
pub rebased_of : (kinds : List CellKind) (old mid new : List ℕ) (part to : ℕ) (this : Part) (row : ℕ) →
    this ≡ part_at old part → part < 4 → length mid ≡ length old → length new ≡ length mid → row ≡ this.first + this.rows →
    ChangesOnly old mid (row_place kinds this.first) (row_place kinds row) →
    ((r : ℕ) → this.first ≤ r → r < row → MovesRow kinds old mid (row_place kinds r) this.base to) →
    ChangesOnly mid new (48 + 24 * part) (48 + 24 * part + 8) → number_at new (48 + 24 * part) 8 ≡ to → Rebased kinds old new part to
rebased_of kinds old mid new part to this row e few long long' end rows moved written base =
    let first = ap (λ p. p.first) e in
    let count = ap (λ p. p.rows) e in
    let start = first_place kinds this.first in
    record {
      long = long' ∙ long;
      before = λ k below. written.before k below ∙ rows.before k (omega (arith, start));
      between = λ k low high. written.after k (omega arith) ∙ rows.before k (omega (arith, ap (row_place kinds) first));
      after = λ k past.
          let last : row_place kinds row ≤ k = omega (arith, ap (row_place kinds) (let same : row ≡ (part_at old part).first + (part_at old part).rows = omega (arith, first, count) in same)) in
          written.after k (omega (arith, first_place kinds row)) ∙ rows.after k last;
      rows = λ r low high.
          let P : ℕ → Type 0 = λ b. MovesRow kinds old new (row_place kinds r) b to in
          subst P (ap (λ p. p.base) e) (row_moves_then kinds old mid new (row_place kinds r) this.base to (moved r (omega (arith, first)) (omega (arith, first, count)))
          (same_after mid new (48 + 24 * part) (48 + 24 * part + 8) (row_place kinds r) (row_place kinds r + width_of kinds) long' written (omega (arith, first_place kinds r))));
      base = base;
    }

pub parts_moved : (kinds : List CellKind) (old new : List ℕ) (part to : ℕ) → Rebased kinds old new part to → part_count old ≤ 4 → part < part_count old → parts_of new ≡ set (parts_of old) part (based (part_at old part) to)
parts_moved kinds old new part to r few inside =
    let counts = counts_same kinds old new part to r in
    same_lists (parts_of new) (set (parts_of old) part (based (part_at old part) to)) (parts_length new ∙ counts.1 ∙ sym (length-set (parts_of old) part (based (part_at old part) to) ∙ parts_length old))
    (λ j d below.
    let within : j < part_count new = omega (arith, parts_length new, below) in
    elim (cases_eq j part) [
      | inl e ↦ parts_at new j d within ∙ ap (part_at new) e ∙ moved_part kinds old new part to r ∙ (let room : part < length (parts_of old) = omega (arith, parts_length old) in sym (ap (λ i. get_or (set (parts_of old) part (based (part_at old part) to)) i d) e ∙ get_or-set_same (parts_of old) part (based (part_at old part) to) d room))
      | inr ne ↦ parts_at new j d within ∙ other_parts kinds old new part to j r (omega arith) (omega (arith, counts.1)) ne ∙ sym (get_or-set_other (parts_of old) part j (based (part_at old part) to) d ne ∙ parts_at old j d (omega (arith, counts.1)))
    ])
