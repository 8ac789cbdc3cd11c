-- A page is accepted again after a row was written.
use Rattle.std.proofs.Common.{◌≡◌, ◌≢◌, ℕ, ◌+◌, ◌-◌, ◌/◌, ◌<◌, ◌≤◌, Bool, true, false, not, cond, eqb, leb, ltb, List, [], length, get_or, Option, Some, None, sym, ap, subst, ◌∙◌, arith, inl, inr}
use Rattle.std.specs.Prelude.{◌&&◌, ◌==◌, IfSome, find, unwrap_or}
use Rattle.std.specs.List.{list_any}
use Rattle.std.proofs.lemmas.Bool.{eqb-true, eqb-false, leb-true, le-leb, lt-ltb, eq-eqb, and_parts, and_from, and_cases, cases_lt, cases_Bool, false≢true, not-false}
use Rattle.std.proofs.lemmas.List.Folds.{list_any_at}
use Rattle.std.proofs.lemmas.Nat.{mul-le, div-add-mod'}
use Rattle.row_image.specs.declared.layout.CellKind.{CellKind}
use Rattle.row_image.specs.declared.layout.CellKind.TheVariants.{Bit, Text}
use Rattle.row_image.specs.declared.cell.CellIn.{CellIn}
use Rattle.row_image.specs.declared.cell.CellIn.TheVariants.{Null}
use Rattle.row_image.specs.declared.image.ImageKind.TheVariants.{Rows}
use Rattle.row_image.specs.Bytes.{number_at}
use Rattle.row_image.specs.Layout.{cell_width, is_text, offset_of, width_of, has_texts, rows_that_fit, row_place}
use Rattle.row_image.specs.Cells.{given_cell, Takes, Meets}
use Rattle.row_image.specs.Image.{row_count, part_count, is_null, parts_of, part_for, no_part}
use Rattle.row_image.specs.Parts.{is_long, wanted, joins, parts_with, begins_fifth, IsHeap, HoldsTexts}
use Rattle.row_image.specs.Rules.{first_damage, text_limit, needs_parts, kind_rules, cell_rules, IsAccepted}
use Rattle.row_image.proofs.ByteLemmas.{SameOn, number_at_same, same_within}
use Rattle.row_image.proofs.LayoutLemmas.{width_of_least, cell_ends, first_place}
use Rattle.row_image.proofs.AcceptedLemmas.{HasParts, Sound, sound_of, accepted_of, row_fits}
use Rattle.row_image.proofs.CellRuleLemmas.{KeepsHeap, LiesIn, kind_rules_same, kind_rules_moved, kind_rules_stored}
use Rattle.row_image.proofs.PartLemmas.{parts_length}
use Rattle.row_image.proofs.PartFacts.{PartFacts, facts_of, facts_sound}
use Rattle.row_image.proofs.GrownLemmas.{Grew, joined, began, grew_of, grown_facts, old_row_keeps, HasHeap, new_row_has}
use Rattle.row_image.proofs.WrittenLemmas.{Written, rows_apart, is_null_same, null_is, ruled, new_cell, wanted_long, lies_in, heap_known}

-- how many parts an accepted image has
pub parts_most : (kinds : List CellKind) (image : List ℕ) → HasParts kinds image → part_count image ≤ 4
parts_most kinds image h = by_need (needs_parts kinds image) h
  where
    by_need : (need : Bool) → cond need (leb 1 (part_count image) && leb (part_count image) 4) (eqb (part_count image) 0) ≡ true → part_count image ≤ 4
    by_need true e = leb-true (part_count image) 4 (and_parts (leb 1 (part_count image)) (leb (part_count image) 4) e).1
    by_need false e = omega (arith, eqb-true (part_count image) 0 e)

pub parts_there : (kinds : List CellKind) (image : List ℕ) → HasParts kinds image → has_texts kinds ≡ true → 0 < row_count image → 0 < part_count image
unfolding needs_parts
parts_there kinds image h texts rows =
    let need : needs_parts kinds image ≡ true = and_from (has_texts kinds) (ltb 0 (row_count image)) texts (lt-ltb 0 (row_count image) rows) in
    let e : (leb 1 (part_count image) && leb (part_count image) 4) ≡ true = sym (ap (λ b. cond b (leb 1 (part_count image) && leb (part_count image) 4) (eqb (part_count image) 0)) need) ∙ h in
    omega (arith, leb-true 1 (part_count image) (and_parts (leb 1 (part_count image)) (leb (part_count image) 4) e).0)

pub parts_none : (kinds : List CellKind) (image : List ℕ) → HasParts kinds image → has_texts kinds ≡ false → part_count image ≡ 0
unfolding needs_parts
parts_none kinds image h texts = eqb-true (part_count image) 0 (sym (ap (λ b. cond (b && ltb 0 (row_count image)) (leb 1 (part_count image) && leb (part_count image) 4) (eqb (part_count image) 0)) texts) ∙ h)

has_parts : (kinds : List CellKind) (image : List ℕ) → has_texts kinds ≡ true → 1 ≤ row_count image → 1 ≤ part_count image → part_count image ≤ 4 → HasParts kinds image
unfolding needs_parts
has_parts kinds image texts rows some most =
    ap (λ b. cond b (leb 1 (part_count image) && leb (part_count image) 4) (eqb (part_count image) 0)) (and_from (has_texts kinds) (ltb 0 (row_count image)) texts (lt-ltb 0 (row_count image) (omega arith)))
    ∙ and_from (leb 1 (part_count image)) (leb (part_count image) 4) (le-leb 1 (part_count image) some) (le-leb (part_count image) 4 most)

no_parts : (kinds : List CellKind) (image : List ℕ) → has_texts kinds ≡ false → part_count image ≡ 0 → HasParts kinds image
unfolding needs_parts
no_parts kinds image texts none = ap (λ b. cond (b && ltb 0 (row_count image)) (leb 1 (part_count image) && leb (part_count image) 4) (eqb (part_count image) 0)) texts ∙ eq-eqb (part_count image) 0 none

few_parts : (old new : List ℕ) (row : ℕ) (want : Option (ℕ × ℕ)) → Grew old new row want → part_count old ≤ 4 → begins_fifth (parts_of old) want ≡ false → (1 ≤ part_count new) × (part_count new ≤ 4)
unfolding begins_fifth
few_parts old new row want (joined w) most room = (omega (arith, w.some, w.count), omega (arith, w.count))
few_parts old new row want (began w) most room =
    let both : (not (joins (parts_of old) want) && (length (parts_of old) == 4)) ≡ false = room in
    elim (and_cases (not (joins (parts_of old) want)) (length (parts_of old) == 4) both) [
      | inl joins_it ↦ absurd (false≢true (sym w.begins ∙ not-false (joins (parts_of old) want) joins_it))
      | inr other ↦ let ne : length (parts_of old) ≢ 4 = eqb-false (length (parts_of old)) 4 other in (omega (arith, w.count), omega (arith, w.count, parts_length old, ne))
    ]

pub text_column : (kinds : List CellKind) (column : ℕ) → column < length kinds → get_or kinds column Bit ≡ Text → has_texts kinds ≡ true
unfolding has_texts
text_column kinds column inside e = list_any_at is_text kinds column Bit inside (ap is_text e)

-- what the parts are after the write
pub record PartsAfter (kinds : List CellKind) (old new : List ℕ) (cells : List CellIn) (heap : Option (ℕ × ℕ)) : Type 0 where
  pub has : HasParts kinds new
  pub facts : (k : ℕ) → k < part_count new → PartFacts new k
  pub keeps : (row : ℕ) → row < row_count old → KeepsHeap (part_for old row) (part_for new row)
  pub held : has_texts kinds ≡ true → (h : ℕ × ℕ) → wanted cells heap ≡ Some h → HasHeap (part_for new (row_count old)) h

wanted_is : (cells : List CellIn) (heap : Option (ℕ × ℕ)) (P : (ℕ × ℕ) → Type 0) → IfSome heap P → IfSome (wanted cells heap) P
unfolding wanted
wanted_is cells heap P h = by_test (list_any (λ cell. is_long (given_cell cell)) cells)
  where
    by_test : (long : Bool) → IfSome (cond long heap None) P
    by_test true = h
    by_test false = tt

grew_has : (old new : List ℕ) (want : Option (ℕ × ℕ)) → Grew old new (row_count old) want → (0 < row_count old → 0 < part_count old) → ((k : ℕ) → k < part_count old → PartFacts old k) → ((k : ℕ) → k < part_count new → PartFacts new k) → (h : ℕ × ℕ) → want ≡ Some h → HasHeap (part_for new (row_count old)) h
grew_has old new want g some facts facts' h e = let P : Option (ℕ × ℕ) → Type 0 = λ w. Grew old new (row_count old) w in new_row_has old new h (subst P e g) some facts facts'

parts_after_texts : (kinds : List CellKind) (old new : List ℕ) (cells : List CellIn) (hash : ℕ) (heap : Option (ℕ × ℕ)) → Written kinds old new cells hash heap → Sound kinds old → IfSome heap (IsHeap (length old) (parts_of old)) → begins_fifth (parts_of old) (wanted cells heap) ≡ false → has_texts kinds ≡ true → PartsAfter kinds old new cells heap
parts_after_texts kinds old new cells hash heap w s is room texts =
    let want = wanted cells heap in
    let g : Grew old new (row_count old) want = grew_of old new (row_count old) want (w.parts ∙ ap (λ b. cond b (parts_with (parts_of old) (row_count old) want) (parts_of old)) texts) in
    let some : 0 < row_count old → 0 < part_count old = parts_there kinds old s.parts texts in
    let facts : (k : ℕ) → k < part_count old → PartFacts old k = λ k inside. facts_of old k (s.part k inside) in
    let known = wanted_is cells heap (IsHeap (length old) (parts_of old)) is in
    let facts' = grown_facts old new want g some w.long w.count known facts in
    let few = few_parts old new (row_count old) want g (parts_most kinds old s.parts) room in
    record {
      has = has_parts kinds new texts (omega (arith, w.count)) few.0 few.1;
      facts = facts';
      keeps = λ row below. old_row_keeps old new want row g some known facts facts' below;
      held = λ t h e. grew_has old new want g some facts facts' h e;
    }

parts_after_none : (kinds : List CellKind) (old new : List ℕ) (cells : List CellIn) (hash : ℕ) (heap : Option (ℕ × ℕ)) → Written kinds old new cells hash heap → Sound kinds old → has_texts kinds ≡ false → PartsAfter kinds old new cells heap
unfolding part_for
parts_after_none kinds old new cells hash heap w s texts =
    let same : parts_of new ≡ parts_of old = w.parts ∙ ap (λ b. cond b (parts_with (parts_of old) (row_count old) (wanted cells heap)) (parts_of old)) texts in
    let count : part_count new ≡ 0 = sym (parts_length new) ∙ ap length same ∙ parts_length old ∙ parts_none kinds old s.parts texts in
    record {
      has = no_parts kinds new texts count;
      facts = λ k inside. absurd (omega (arith, count, inside));
      keeps = λ row below. let e : part_for new row ≡ part_for old row = ap (λ ps. unwrap_or (find (λ part. ltb row (part.first + part.rows)) ps) no_part) same in
          record { heap = λ there. ap (λ p. p.heap) e; base = λ there. ap (λ p. p.base) e };
      held = λ t. absurd (false≢true (sym texts ∙ t));
    }

pub parts_after : (kinds : List CellKind) (old new : List ℕ) (cells : List CellIn) (hash : ℕ) (heap : Option (ℕ × ℕ)) → Written kinds old new cells hash heap → Sound kinds old → IfSome heap (IsHeap (length old) (parts_of old)) → begins_fifth (parts_of old) (wanted cells heap) ≡ false → PartsAfter kinds old new cells heap
parts_after kinds old new cells hash heap w s is room =
    elim (cases_Bool (has_texts kinds)) [
      | inl texts ↦ parts_after_texts kinds old new cells hash heap w s is room texts
      | inr none ↦ parts_after_none kinds old new cells hash heap w s none
    ]

pub old_cell : (kinds : List CellKind) (old new : List ℕ) (row column : ℕ) → KeepsHeap (part_for old row) (part_for new row) → SameOn old new (row_place kinds row) (row_place kinds row + width_of kinds) → row_place kinds row + width_of kinds ≤ length old → column < length kinds → first_damage (cell_rules kinds old row column) ≡ None → first_damage (cell_rules kinds new row column) ≡ None
unfolding cell_rules
old_cell kinds old new row column keeps h fits inside sound =
    let at = row_place kinds row in
    let kind = get_or kinds column Bit in
    let place = at + offset_of kinds column in
    let cell : SameOn old new place (place + cell_width kind) = same_within old new at (at + width_of kinds) place (place + cell_width kind) h (omega arith) (omega (arith, cell_ends kinds column inside)) in
    let same = kind_rules_same kind old new place (part_for old row) cell (omega (arith, cell_ends kinds column inside)) in
    ap (λ b. first_damage (cond b [] (kind_rules kind new place (part_for new row)))) (is_null_same kinds old new at column h inside)
    ∙ ruled (is_null old at column) (kind_rules kind old place (part_for old row)) (kind_rules kind new place (part_for new row))
    (λ fine. kind_rules_moved kind new place (part_for old row) (part_for new row) keeps (ap first_damage same ∙ fine)) sound

written_cell : (kinds : List CellKind) (old new : List ℕ) (cells : List CellIn) (hash : ℕ) (heap : Option (ℕ × ℕ)) (column : ℕ) → Written kinds old new cells hash heap → PartsAfter kinds old new cells heap → Meets kinds (text_limit (length old)) cells → HoldsTexts (length old) (parts_of old) cells heap → 4096 ≤ length old → row_place kinds (row_count old) + width_of kinds ≤ length old → column < length kinds → first_damage (cell_rules kinds new (row_count old) column) ≡ None
unfolding cell_rules
written_cell kinds old new cells hash heap column w p meets holds page fits inside =
    let row = row_count old in
    let at = row_place kinds row in
    let kind = get_or kinds column Bit in
    let place = at + offset_of kinds column in
    let cell = given_cell (get_or cells column Null) in
    let counted : column < length cells = omega (arith, meets.count) in
    new_cell (is_null new at column) (kind_rules kind new place (part_for new row)) cell (null_is kinds (text_limit (length old)) new at cells hash column w.row meets inside)
    (λ there.
    let takes : Takes kind (text_limit (length new)) cell = let P : ℕ → Type 0 = λ n. Takes kind (text_limit n) cell in subst P (sym w.long) (meets.each column inside) in
    kind_rules_stored kind new place (part_for new row) cell (omega (arith, w.long, cell_ends kinds column inside)) (omega (arith, w.long)) there takes (w.row.stored column inside)
    (λ is_text_kind.
    let texts = text_column kinds column inside is_text_kind in
    let P : ℕ → Type 0 = λ n. LiesIn n (part_for new row) cell in
    subst P (sym w.long) (lies_in (length old) heap (part_for new row) cell (holds.each column counted)
    (λ long. heap_known (length old) (parts_of old) (part_for new row) heap holds.is (λ h e. p.held texts h (wanted_long cells heap column counted long ∙ e))))))

pub written_accepted : (kinds : List CellKind) (old new : List ℕ) (cells : List CellIn) (hash : ℕ) (heap : Option (ℕ × ℕ)) → Written kinds old new cells hash heap → IsAccepted (Rows kinds) old → Meets kinds (text_limit (length old)) cells → HoldsTexts (length old) (parts_of old) cells heap → begins_fifth (parts_of old) (wanted cells heap) ≡ false → row_count old < rows_that_fit kinds (length old) → 4096 ≤ length old → IsAccepted (Rows kinds) new
written_accepted kinds old new cells hash heap w accepted meets holds room below page =
    let s = sound_of kinds old accepted in
    let p = parts_after kinds old new cells hash heap w s holds.is room in
    let n = row_count old in
    let wide : 0 < width_of kinds = omega (arith, width_of_least kinds) in
    let fits = row_fits kinds (length old) n (omega arith) wide below in
    accepted_of kinds new (record {
      kind = number_at_same old new 0 8 w.head 0 4 (omega arith) (omega arith) ∙ s.kind;
      width = number_at_same old new 0 8 w.head 4 4 (omega arith) (omega arith) ∙ s.width;
      rows = omega (arith, w.count, ap (rows_that_fit kinds) w.long);
      parts = p.has;
      part = λ k inside. facts_sound new k (p.facts k inside);
      cell = λ row column r c.
          elim (cases_lt row n) [
            | inl less ↦ old_cell kinds old new row column (p.keeps row less) (same_within old new 128 (row_place kinds n) (row_place kinds row) (row_place kinds row + width_of kinds) w.body (first_place kinds row) (rows_apart kinds row n less)) (omega (arith, rows_apart kinds row n less)) c (s.cell row column less c)
            | inr more ↦ let is : row ≡ n = omega (arith, w.count) in let P : ℕ → Type 0 = λ r. first_damage (cell_rules kinds new r column) ≡ None in subst P (sym is) (written_cell kinds old new cells hash heap column w p meets holds page fits c)
          ];
    })

-- the rows that fit are few
pub fit_most : (kinds : List CellKind) (page : ℕ) → rows_that_fit kinds page ≤ page
unfolding rows_that_fit
fit_most kinds page =
    let wide : 8 ≤ width_of kinds = omega (arith, width_of_least kinds) in
    omega (arith, mul-le ((page - 128) / width_of kinds) 1 ((page - 128) / width_of kinds) (width_of kinds) (omega arith) (omega arith), div-add-mod' (page - 128) (width_of kinds))

-- an empty page is accepted
pub empty_accepted : (kinds : List CellKind) (image : List ℕ) → number_at image 0 4 ≡ 1 → number_at image 4 4 ≡ width_of kinds → row_count image ≡ 0 → part_count image ≡ 0 → IsAccepted (Rows kinds) image
unfolding needs_parts
empty_accepted kinds image kind width rows parts =
    accepted_of kinds image (record {
      kind = kind;
      width = width;
      rows = omega (arith, rows);
      parts = ap (λ n. cond (has_texts kinds && ltb 0 n) (leb 1 (part_count image) && leb (part_count image) 4) (eqb (part_count image) 0)) rows ∙ empty_parts (has_texts kinds) (part_count image) parts;
      part = λ k inside. absurd (omega (arith, parts, inside));
      cell = λ row column r c. absurd (omega (arith, rows, r));
    })
  where
    empty_parts : (texts : Bool) (parts : ℕ) → parts ≡ 0 → cond (texts && false) (leb 1 parts && leb parts 4) (eqb parts 0) ≡ true
    empty_parts true parts e = eq-eqb parts 0 e
    empty_parts false parts e = eq-eqb parts 0 e
