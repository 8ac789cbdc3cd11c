-- The parts after a row was written: their rules hold, and each row's part keeps its heap page.
use Rattle.std.proofs.Common.{◌≡◌, ◌≢◌, ℕ, ◌+◌, ◌-◌, ◌%◌, ◌^◌, ◌<◌, true, false, cond, eqb, ltb, List, [], ◌∷◌, ◌++◌, length, get_or, set, Option, Some, None, refl, sym, ap, subst, ◌∙◌, arith, inl, inr}
use Rattle.std.specs.Prelude.{◌&&◌, IfSome}
use Rattle.std.proofs.lemmas.Bool.{eqb-true, eq-eqb, ne_eqb, lt-ltb, and_from, or_cases, cases_eq, cases_lt, cases_Bool}
use Rattle.std.proofs.lemmas.List.{length-set, get_or-set_same, get_or-set_other, length_push, get_or_push, get_or_append_left}
use Rattle.row_image.specs.declared.image.Part.{Part}
use Rattle.row_image.specs.Image.{row_count, part_count, part_at, parts_of, part_for, no_heap, no_part}
use Rattle.row_image.specs.Parts.{last_part, takes_row, joins, grown, begun, parts_with, IsHeap}
use Rattle.row_image.specs.Rules.{rows_before}
use Rattle.row_image.proofs.CellRuleLemmas.{KeepsHeap}
use Rattle.row_image.proofs.PartLemmas.{parts_length, parts_at, last_is, joins_some, joins_counted}
use Rattle.row_image.proofs.PartFacts.{HasBase, PartFacts, before_none, before_next, before_same, part_for_is, covered}

-- the row joined the last part
pub record Joined (old new : List ℕ) (want : Option (ℕ × ℕ)) : Type 0 where
  pub some : 0 < part_count old
  pub takes : takes_row (part_at old (part_count old - 1)) want ≡ true
  pub count : part_count new ≡ part_count old
  pub last : part_at new (part_count old - 1) ≡ grown (part_at old (part_count old - 1)) want
  pub others : (j : ℕ) → j < part_count old - 1 → part_at new j ≡ part_at old j

-- the row began a part
pub record Begun (old new : List ℕ) (row : ℕ) (want : Option (ℕ × ℕ)) : Type 0 where
  pub begins : joins (parts_of old) want ≡ false
  pub count : part_count new ≡ part_count old + 1
  pub last : part_at new (part_count old) ≡ begun row want
  pub others : (j : ℕ) → j < part_count old → part_at new j ≡ part_at old j

pub data Grew (old new : List ℕ) (row : ℕ) (want : Option (ℕ × ℕ)) : Type 0 where
  joined : Joined old new want → Grew old new row want
  began : Begun old new row want → Grew old new row want

pub grew_of : (old new : List ℕ) (row : ℕ) (want : Option (ℕ × ℕ)) → parts_of new ≡ parts_with (parts_of old) row want → Grew old new row want
unfolding parts_with
grew_of old new row want e =
    elim (cases_Bool (joins (parts_of old) want)) [
      | inl join ↦
          let some = joins_counted old want join in
          let n = part_count old in
          let put : parts_of new ≡ set (parts_of old) (length (parts_of old) - 1) (grown (last_part (parts_of old)) want) =
          e ∙ ap (λ b. cond b (set (parts_of old) (length (parts_of old) - 1) (grown (last_part (parts_of old)) want)) (parts_of old ++ begun row want ∷ [])) join in
          let put' : parts_of new ≡ set (parts_of old) (n - 1) (grown (part_at old (n - 1)) want) =
          put ∙ ap (λ p. set (parts_of old) (length (parts_of old) - 1) (grown p want)) (last_is old some) ∙ ap (λ k. set (parts_of old) (k - 1) (grown (part_at old (n - 1)) want)) (parts_length old) in
          let count : part_count new ≡ n = sym (parts_length new) ∙ ap length put' ∙ length-set (parts_of old) (n - 1) (grown (part_at old (n - 1)) want) ∙ parts_length old in
          joined (record {
            some = some;
            takes = sym (joins_some old want some) ∙ join;
            count = count;
            last = sym (parts_at new (n - 1) no_part (omega arith)) ∙ ap (λ ps. get_or ps (n - 1) no_part) put' ∙ get_or-set_same (parts_of old) (n - 1) (grown (part_at old (n - 1)) want) no_part (omega (arith, parts_length old));
            others = λ j less. sym (parts_at new j no_part (omega arith)) ∙ ap (λ ps. get_or ps j no_part) put' ∙ get_or-set_other (parts_of old) (n - 1) j (grown (part_at old (n - 1)) want) no_part (let ne : j ≢ n - 1 = omega arith in ne) ∙ parts_at old j no_part (omega arith);
          })
      | inr begins ↦
          let n = part_count old in
          let put : parts_of new ≡ parts_of old ++ begun row want ∷ [] =
          e ∙ ap (λ b. cond b (set (parts_of old) (length (parts_of old) - 1) (grown (last_part (parts_of old)) want)) (parts_of old ++ begun row want ∷ [])) begins in
          let count : part_count new ≡ n + 1 = sym (parts_length new) ∙ ap length put ∙ length_push (parts_of old) (begun row want) ∙ ap (λ k. k + 1) (parts_length old) in
          began (record {
            begins = begins;
            count = count;
            last = sym (parts_at new n no_part (omega arith)) ∙ ap (λ ps. get_or ps n no_part) put ∙ get_or_push (parts_of old) (begun row want) no_part n (parts_length old);
            others = λ j less. sym (parts_at new j no_part (omega arith)) ∙ ap (λ ps. get_or ps j no_part) put ∙ get_or_append_left (parts_of old) (begun row want ∷ []) no_part j (omega (arith, parts_length old)) ∙ parts_at old j no_part less;
          })
    ]

-- a base that is handed in
given_base : (page : ℕ) (parts : List Part) (heap : ℕ × ℕ) (first rows : ℕ) → IsHeap page parts heap → HasBase page (record { first = first; rows = rows; heap = heap.0; base = heap.1 })
given_base page parts heap first rows h =
    ap (λ b. cond b (eqb heap.1 0) (eqb (heap.1 % page) 0 && ltb heap.1 (2 ^ 48))) (ne_eqb heap.0 no_heap (let ne : heap.0 ≢ no_heap = omega (arith, h.number) in ne))
    ∙ and_from (eqb (heap.1 % page) 0) (ltb heap.1 (2 ^ 48)) (eq-eqb (heap.1 % page) 0 h.aligned) (lt-ltb heap.1 (2 ^ 48) h.low)

grown_base : (page : ℕ) (parts : List Part) (part : Part) (want : Option (ℕ × ℕ)) → HasBase page part → IfSome want (IsHeap page parts) → HasBase page (grown part want)
grown_base page parts part None h is = h
grown_base page parts part (Some heap) h is = given_base page parts heap part.first (part.rows + 1) is

begun_base : (page : ℕ) (parts : List Part) (row : ℕ) (want : Option (ℕ × ℕ)) → IfSome want (IsHeap page parts) → HasBase page (begun row want)
begun_base page parts row None is = refl
begun_base page parts row (Some heap) is = given_base page parts heap row 1 is

grown_first : (part : Part) (want : Option (ℕ × ℕ)) → (grown part want).first ≡ part.first
grown_first part None = refl
grown_first part (Some heap) = refl

grown_rows : (part : Part) (want : Option (ℕ × ℕ)) → (grown part want).rows ≡ part.rows + 1
grown_rows part None = refl
grown_rows part (Some heap) = refl

begun_first : (row : ℕ) (want : Option (ℕ × ℕ)) → (begun row want).first ≡ row
begun_first row None = refl
begun_first row (Some heap) = refl

begun_rows : (row : ℕ) (want : Option (ℕ × ℕ)) → (begun row want).rows ≡ 1
begun_rows row None = refl
begun_rows row (Some heap) = refl

-- a part that takes a row keeps its heap page
pub grown_keeps : (page : ℕ) (parts : List Part) (part : Part) (want : Option (ℕ × ℕ)) → takes_row part want ≡ true → IfSome want (λ heap. part.heap ≡ heap.0 → part.base ≡ heap.1) → KeepsHeap part (grown part want)
grown_keeps page parts part None takes known = record { heap = λ there. refl; base = λ there. refl }
grown_keeps page parts part (Some heap) takes known =
    elim (or_cases (eqb part.heap no_heap) (eqb part.heap heap.0) takes) [
      | inl none ↦ record { heap = λ there. absurd (there (eqb-true part.heap no_heap none)); base = λ there. absurd (there (eqb-true part.heap no_heap none)) }
      | inr same ↦ record { heap = λ there. sym (eqb-true part.heap heap.0 same); base = λ there. sym (known (eqb-true part.heap heap.0 same)) }
    ]

-- the parts of an image have all its rows
pub all_rows : (image : List ℕ) → (0 < row_count image → 0 < part_count image) → ((k : ℕ) → k < part_count image → PartFacts image k) → rows_before image (part_count image) ≡ row_count image
all_rows image some facts =
    elim (cases_eq (part_count image) 0) [
      | inl none ↦ ap (rows_before image) none ∙ before_none image ∙ elim (cases_eq (row_count image) 0) [ inl e ↦ sym e | inr ne ↦ absurd (let there : 0 < row_count image = omega arith in let more = some there in omega arith) ]
      | inr more ↦
          let last : part_count image - 1 + 1 ≡ part_count image = omega arith in
          omega (arith, (facts (part_count image - 1) (omega arith)).whole last, before_next image (part_count image - 1), ap (rows_before image) last)
    ]

joined_facts : (old new : List ℕ) (want : Option (ℕ × ℕ)) → Joined old new want → length new ≡ length old → row_count new ≡ row_count old + 1 → IfSome want (IsHeap (length old) (parts_of old)) → ((k : ℕ) → k < part_count old → PartFacts old k) → (k : ℕ) → k < part_count new → PartFacts new k
joined_facts old new want w long rows heap facts k inside =
    let n = part_count old in
    let before : rows_before new k ≡ rows_before old k = before_same old new k (λ j less. w.others j (omega (arith, w.count))) in
    let f = facts k (omega (arith, w.count)) in
    elim (cases_lt k (n - 1)) [
      | inl less ↦
          let same = w.others k less in
          record {
            first = ap (λ p. p.first) same ∙ f.first ∙ sym before;
            some = omega (arith, ap (λ p. p.rows) same, f.some);
            most = omega (arith, ap (λ p. p.rows) same, f.most, before, rows);
            whole = λ e. absurd (omega (arith, w.count, w.some));
            base = let P : Part → Type 0 = λ p. HasBase (length old) p in let Q : ℕ → Type 0 = λ page. HasBase page (part_at new k) in subst Q (sym long) (subst P (sym same) f.base);
          }
      | inr more ↦
          let is : k ≡ n - 1 = omega (arith, w.count) in
          let same : part_at new k ≡ grown (part_at old k) want = ap (part_at new) is ∙ w.last ∙ ap (λ j. grown (part_at old j) want) (sym is) in
          let r = ap (λ p. p.rows) same ∙ grown_rows (part_at old k) want in
          record {
            first = ap (λ p. p.first) same ∙ grown_first (part_at old k) want ∙ f.first ∙ sym before;
            some = omega (arith, r);
            most = omega (arith, r, f.most, before, rows);
            whole = λ e. omega (arith, r, f.whole (omega (arith, w.count, w.some)), before, rows);
            base = let P : Part → Type 0 = λ p. HasBase (length old) p in let Q : ℕ → Type 0 = λ page. HasBase page (part_at new k) in subst Q (sym long) (subst P (sym same) (grown_base (length old) (parts_of old) (part_at old k) want f.base heap));
          }
    ]

begun_facts : (old new : List ℕ) (want : Option (ℕ × ℕ)) → Begun old new (row_count old) want → (0 < row_count old → 0 < part_count old) → length new ≡ length old → row_count new ≡ row_count old + 1 → IfSome want (IsHeap (length old) (parts_of old)) → ((k : ℕ) → k < part_count old → PartFacts old k) → (k : ℕ) → k < part_count new → PartFacts new k
begun_facts old new want w some long rows heap facts k inside =
    let n = part_count old in
    let before : rows_before new k ≡ rows_before old k = before_same old new k (λ j less. w.others j (omega (arith, w.count))) in
    elim (cases_lt k n) [
      | inl less ↦
          let same = w.others k less in
          let f = facts k less in
          record {
            first = ap (λ p. p.first) same ∙ f.first ∙ sym before;
            some = omega (arith, ap (λ p. p.rows) same, f.some);
            most = omega (arith, ap (λ p. p.rows) same, f.most, before, rows);
            whole = λ e. absurd (omega (arith, w.count));
            base = let P : Part → Type 0 = λ p. HasBase (length old) p in let Q : ℕ → Type 0 = λ page. HasBase page (part_at new k) in subst Q (sym long) (subst P (sym same) f.base);
          }
      | inr more ↦
          let is : k ≡ n = omega (arith, w.count) in
          let same : part_at new k ≡ begun (row_count old) want = ap (part_at new) is ∙ w.last in
          let all : rows_before old k ≡ row_count old = ap (rows_before old) is ∙ all_rows old some facts in
          let r = ap (λ p. p.rows) same ∙ begun_rows (row_count old) want in
          record {
            first = ap (λ p. p.first) same ∙ begun_first (row_count old) want ∙ sym all ∙ sym before;
            some = omega (arith, r);
            most = omega (arith, r, all, before, rows);
            whole = λ e. omega (arith, r, all, before, rows);
            base = let P : Part → Type 0 = λ p. HasBase (length old) p in let Q : ℕ → Type 0 = λ page. HasBase page (part_at new k) in subst Q (sym long) (subst P (sym same) (begun_base (length old) (parts_of old) (row_count old) want heap));
          }
    ]

pub grown_facts : (old new : List ℕ) (want : Option (ℕ × ℕ)) → Grew old new (row_count old) want → (0 < row_count old → 0 < part_count old) → length new ≡ length old → row_count new ≡ row_count old + 1 → IfSome want (IsHeap (length old) (parts_of old)) → ((k : ℕ) → k < part_count old → PartFacts old k) → (k : ℕ) → k < part_count new → PartFacts new k
grown_facts old new want (joined w) some long rows heap facts = joined_facts old new want w long rows heap facts
grown_facts old new want (began w) some long rows heap facts = begun_facts old new want w some long rows heap facts

last_known : (page : ℕ) (image : List ℕ) (want : Option (ℕ × ℕ)) → 0 < part_count image → IfSome want (IsHeap page (parts_of image)) → IfSome want (λ heap. (part_at image (part_count image - 1)).heap ≡ heap.0 → (part_at image (part_count image - 1)).base ≡ heap.1)
last_known page image None some h = h
last_known page image (Some heap) some h = λ e. sym (ap (λ p. p.base) (last_is image some)) ∙ h.known (omega (arith, parts_length image)) (ap (λ p. p.heap) (last_is image some) ∙ e)

keeps_same : (p q : Part) → q ≡ p → KeepsHeap p q
keeps_same p q e = record { heap = λ there. ap (λ x. x.heap) e; base = λ there. ap (λ x. x.base) e }

-- a row that was there keeps its heap page
pub old_row_keeps : (old new : List ℕ) (want : Option (ℕ × ℕ)) (row : ℕ) → Grew old new (row_count old) want → (0 < row_count old → 0 < part_count old) → IfSome want (IsHeap (length old) (parts_of old)) → ((k : ℕ) → k < part_count old → PartFacts old k) → ((k : ℕ) → k < part_count new → PartFacts new k) → row < row_count old → KeepsHeap (part_for old row) (part_for new row)
old_row_keeps old new want row (joined w) some heap facts facts' below =
    let n = part_count old in
    let c = covered old n row (omega (arith, all_rows old some facts)) in
    let before : rows_before new c.part ≡ rows_before old c.part = before_same old new c.part (λ j less. w.others j (omega (arith, c.inside))) in
    let was = part_for_is old c.part row facts c.inside c.low c.high in
    elim (cases_lt c.part (n - 1)) [
      | inl less ↦
          let same = w.others c.part less in
          let now = part_for_is new c.part row facts' (omega (arith, c.inside, w.count)) (omega (arith, before, c.low)) (omega (arith, before, c.high, ap (λ p. p.rows) same)) in
          keeps_same (part_for old row) (part_for new row) (now ∙ same ∙ sym was)
      | inr more ↦
          let is : c.part ≡ n - 1 = omega (arith, c.inside) in
          let same : part_at new c.part ≡ grown (part_at old c.part) want = ap (part_at new) is ∙ w.last ∙ ap (λ j. grown (part_at old j) want) (sym is) in
          let now = part_for_is new c.part row facts' (omega (arith, c.inside, w.count)) (omega (arith, before, c.low)) (omega (arith, before, c.high, ap (λ p. p.rows) same, grown_rows (part_at old c.part) want)) in
          let P : ℕ → Type 0 = λ j. KeepsHeap (part_at old j) (grown (part_at old j) want) in
          let k : KeepsHeap (part_at old c.part) (grown (part_at old c.part) want) = subst P (sym is) (grown_keeps (length old) (parts_of old) (part_at old (n - 1)) want w.takes (last_known (length old) old want w.some heap)) in
          let Q : Part → Type 0 = λ p. KeepsHeap p (part_for new row) in
          let R : Part → Type 0 = λ p. KeepsHeap (part_at old c.part) p in
          subst Q (sym was) (subst R (sym (now ∙ same)) k)
    ]
old_row_keeps old new want row (began w) some heap facts facts' below =
    let n = part_count old in
    let c = covered old n row (omega (arith, all_rows old some facts)) in
    let before : rows_before new c.part ≡ rows_before old c.part = before_same old new c.part (λ j less. w.others j (omega (arith, c.inside))) in
    let was = part_for_is old c.part row facts c.inside c.low c.high in
    let same = w.others c.part c.inside in
    let now = part_for_is new c.part row facts' (omega (arith, c.inside, w.count)) (omega (arith, before, c.low)) (omega (arith, before, c.high, ap (λ p. p.rows) same)) in
    keeps_same (part_for old row) (part_for new row) (now ∙ same ∙ sym was)

-- the heap page of a part
pub record HasHeap (part : Part) (heap : ℕ × ℕ) : Type 0 where
  pub number : part.heap ≡ heap.0
  pub base : part.base ≡ heap.1

-- the row that was written has the heap page that it needs
pub new_row_has : (old new : List ℕ) (heap : ℕ × ℕ) → Grew old new (row_count old) (Some heap) → (0 < row_count old → 0 < part_count old) → ((k : ℕ) → k < part_count old → PartFacts old k) → ((k : ℕ) → k < part_count new → PartFacts new k) → HasHeap (part_for new (row_count old)) heap
new_row_has old new heap (joined w) some facts facts' =
    let last = part_count old - 1 in
    let before : rows_before new last ≡ rows_before old last = before_same old new last (λ j less. w.others j less) in
    let whole = (facts last (omega (arith, w.some))).whole (omega (arith, w.some)) in
    let now = part_for_is new last (row_count old) facts' (omega (arith, w.some, w.count)) (omega (arith, before, whole)) (omega (arith, before, whole, ap (λ p. p.rows) w.last)) ∙ w.last in
    record { number = ap (λ p. p.heap) now; base = ap (λ p. p.base) now }
new_row_has old new heap (began w) some facts facts' =
    let n = part_count old in
    let before : rows_before new n ≡ rows_before old n = before_same old new n w.others in
    let whole = all_rows old some facts in
    let now = part_for_is new n (row_count old) facts' (omega (arith, w.count)) (omega (arith, before, whole)) (omega (arith, before, whole, ap (λ p. p.rows) w.last)) ∙ w.last in
    record { number = ap (λ p. p.heap) now; base = ap (λ p. p.base) now }
