-- The rules of a cell: they speak of its own bytes and of the heap page of its part.
use Rattle.std.proofs.Common.{◌≡◌, ◌≢◌, ℕ, ◌+◌, ◌<◌, ◌≤◌, ◌≤ℤ◌, true, false, not, cond, eqb, leb, ltb, List, [], ◌∷◌, length, get_or, ℤ, None, refl, sym, ap, ◌∙◌, arith, inl, inr, pos}
use Rattle.std.specs.Prelude.{◌&&◌, slice_index, slice_range, unwrap_or}
use Rattle.std.proofs.lemmas.Bool.{leb-true, eq-eqb, eqb-false, ne_eqb, le-leb, lt-leb, ltb-false, and_parts, and_from, not-true}
use Rattle.std.proofs.lemmas.Bool.Decides.{leb_tells}
use Rattle.std.proofs.lemmas.Int.{ints}
use Rattle.std.proofs.lemmas.List.Edits.{length-between, get_or-between}
use Rattle.row_image.specs.declared.layout.CellKind.{CellKind}
use Rattle.row_image.specs.declared.layout.CellKind.TheVariants.{Bit, Four, Eight, Sixteen, Text}
use Rattle.row_image.specs.declared.image.Part.{Part}
use Rattle.row_image.specs.Bytes.{number_at}
use Rattle.row_image.specs.Layout.{cell_width, is_text}
use Rattle.row_image.specs.Cells.{StoredCell, NullCell, NumberCell, ShortCell, LongCell, Takes}
use Rattle.row_image.specs.Image.{cell_at, text_at, no_heap}
use Rattle.row_image.specs.Stores.{StoresAt}
use Rattle.row_image.specs.Rules.{first_damage, text_limit, bit_rule, size_rule, first_set, pad_rule, address_rule, text_rule, text_rules, kind_rules}
use Rattle.row_image.proofs.ByteLemmas.{SameOn, number_at_same, slice_range_same}
use Rattle.row_image.proofs.ListLemmas.{find_none}
use Rattle.row_image.proofs.RuleLemmas.{sound_cons, cons_sound}

text_rule_same : (old new : List ℕ) (at size : ℕ) (part : Part) → SameOn old new at (at + 16) → at + 16 ≤ length old → text_rule new at size part ≡ text_rule old at size part
text_rule_same old new at size part h fits =
    elim (leb_tells size 12) [
      | inl short ↦ rw short.0 (ap pad_rule (slice_range_same old new at (at + 16) h (at + 4 + size) (at + 16) (omega arith) (omega arith) fits))
      | inr long ↦ rw long.0 (ap (λ page. address_rule page size (number_at new (at + 8) 8) part) h.long ∙ ap (λ a. address_rule (length old) size a part) (number_at_same old new at (at + 16) h (at + 8) 8 (omega arith) (omega arith)))
    ]

pub kind_rules_same : (kind : CellKind) (old new : List ℕ) (at : ℕ) (part : Part) → SameOn old new at (at + cell_width kind) → at + cell_width kind ≤ length old → kind_rules kind new at part ≡ kind_rules kind old at part
unfolding kind_rules
kind_rules_same Bit old new at part h fits = rw (h.same at (omega arith) (omega arith))
kind_rules_same Four old new at part h fits = refl
kind_rules_same Eight old new at part h fits = refl
kind_rules_same Sixteen old new at part h fits = refl
kind_rules_same Text old new at part h fits =
    let size = number_at old at 4 in
    ap (λ n. text_rules new at n part) (number_at_same old new at (at + 16) h at 4 (omega arith) (omega arith))
    ∙ ap (λ page. size_rule page size ∷ text_rule new at size part ∷ []) h.long
    ∙ ap (λ rule. size_rule (length old) size ∷ rule ∷ []) (text_rule_same old new at size part h fits)

-- a part that keeps its heap page, where it has one
pub record KeepsHeap (old new : Part) : Type 0 where
  pub heap : old.heap ≢ no_heap → new.heap ≡ old.heap
  pub base : old.heap ≢ no_heap → new.base ≡ old.base

address_moved : (page size address : ℕ) (old new : Part) → KeepsHeap old new → (address_rule page size address old).holds ≡ true → (address_rule page size address new).holds ≡ true
address_moved page size address old new k h =
    let both = and_parts (not (eqb old.heap no_heap)) (leb (old.base + 64) address && leb (address + size) (old.base + page)) h in
    let there : old.heap ≢ no_heap = λ e. eqb-false old.heap no_heap (not-true (eqb old.heap no_heap) both.0) e in
    ap (λ heap. not (eqb heap no_heap) && (leb (new.base + 64) address && leb (address + size) (new.base + page))) (k.heap there)
    ∙ ap (λ base. not (eqb old.heap no_heap) && (leb (base + 64) address && leb (address + size) (base + page))) (k.base there) ∙ h

text_moved : (image : List ℕ) (at size : ℕ) (old new : Part) → KeepsHeap old new → (text_rule image at size old).holds ≡ true → (text_rule image at size new).holds ≡ true
text_moved image at size old new k h =
    elim (leb_tells size 12) [
      | inl short ↦ ap (λ b. (cond b (pad_rule (slice_range image (at + 4 + size) (at + 16))) (address_rule (length image) size (number_at image (at + 8) 8) new)).holds) short.0
          ∙ sym (ap (λ b. (cond b (pad_rule (slice_range image (at + 4 + size) (at + 16))) (address_rule (length image) size (number_at image (at + 8) 8) old)).holds) short.0) ∙ h
      | inr long ↦ ap (λ b. (cond b (pad_rule (slice_range image (at + 4 + size) (at + 16))) (address_rule (length image) size (number_at image (at + 8) 8) new)).holds) long.0
          ∙ address_moved (length image) size (number_at image (at + 8) 8) old new k (sym (ap (λ b. (cond b (pad_rule (slice_range image (at + 4 + size) (at + 16))) (address_rule (length image) size (number_at image (at + 8) 8) old)).holds) long.0) ∙ h)
    ]

pub kind_rules_moved : (kind : CellKind) (image : List ℕ) (at : ℕ) (old new : Part) → KeepsHeap old new → first_damage (kind_rules kind image at old) ≡ None → first_damage (kind_rules kind image at new) ≡ None
unfolding kind_rules
kind_rules_moved Bit image at old new k h = h
kind_rules_moved Four image at old new k h = h
kind_rules_moved Eight image at old new k h = h
kind_rules_moved Sixteen image at old new k h = h
kind_rules_moved Text image at old new k h =
    let size = number_at image at 4 in
    let first = sound_cons (size_rule (length image) size) (text_rule image at size old ∷ []) h in
    let second = sound_cons (text_rule image at size old) [] first.1 in
    cons_sound (size_rule (length image) size) (text_rule image at size new ∷ []) first.0 (cons_sound (text_rule image at size new) [] (text_moved image at size old new k second.0) refl)

-- a long text lies on the heap page of a part
abbrev pub LiesIn : ℕ → Part → StoredCell → Type 0
LiesIn page part NullCell = Unit {0}
LiesIn page part (NumberCell z) = Unit {0}
LiesIn page part (ShortCell text) = Unit {0}
LiesIn page part (LongCell prefix size address) = (part.heap ≢ no_heap) × (part.base + 64 ≤ address) × (address + size ≤ part.base + page)

first_set_none : (bytes : List ℕ) → ((k : ℕ) → k < length bytes → get_or bytes k 0 ≡ 0) → first_set bytes ≡ 0
unfolding first_set
first_set_none bytes h = ap (λ o. unwrap_or o 0) (find_none (λ byte. not (eqb byte 0)) bytes 0 (λ j less. ap (λ byte. not (eqb byte 0)) (h j less)))

bit_stored : (byte : ℕ) (z : ℤ) → NumberCell (pos byte) ≡ NumberCell z → z ≤ℤ pos 1 → byte ≤ 1
bit_stored byte z e most = let same : pos byte ≡ z = cc in omega (arith, ints, same)

-- a text within its cell: its length is that of the text, and zeros stand behind it
short_stored : (image : List ℕ) (at size : ℕ) (part : Part) (text : List ℕ) → at + 16 ≤ length image → 4096 ≤ length image → text_at image at size ≡ ShortCell text → ((k : ℕ) → at + 4 + length text ≤ k → k < at + 16 → slice_index image k ≡ 0) → first_damage (text_rules image at size part) ≡ None
unfolding text_limit
short_stored image at size part text fits page e zeros =
    elim (leb_tells size 12) [
      | inl short ↦
          let cell : ShortCell (slice_range image (at + 4) (at + 4 + size)) ≡ ShortCell text = sym (ap (λ b. cond b (ShortCell (slice_range image (at + 4) (at + 4 + size))) (LongCell (slice_range image (at + 4) (at + 8)) size (number_at image (at + 8) 8))) short.0) ∙ e in
          let same : slice_range image (at + 4) (at + 4 + size) ≡ text = cc in
          let long : length text ≡ size = omega (arith, ap length same, length-between image (at + 4) (at + 4 + size) (omega (arith, short.1))) in
          let pad : first_set (slice_range image (at + 4 + size) (at + 16)) ≡ 0 = first_set_none (slice_range image (at + 4 + size) (at + 16)) (λ k less.
          let within : at + 4 + size + k < at + 16 = omega (arith, length-between image (at + 4 + size) (at + 16) fits, less) in
          get_or-between image (at + 4 + size) (at + 16) k 0 within ∙ zeros (at + 4 + size + k) (omega arith) within) in
          cons_sound (size_rule (length image) size) (text_rule image at size part ∷ []) (le-leb size (text_limit (length image)) (omega (arith, short.1)))
          (cons_sound (text_rule image at size part) []
          (ap (λ b. (cond b (pad_rule (slice_range image (at + 4 + size) (at + 16))) (address_rule (length image) size (number_at image (at + 8) 8) part)).holds) short.0 ∙ eq-eqb _ 0 pad) refl)
      | inr long ↦
          absurd (let cell : LongCell (slice_range image (at + 4) (at + 8)) size (number_at image (at + 8) 8) ≡ ShortCell text = sym (ap (λ b. cond b (ShortCell (slice_range image (at + 4) (at + 4 + size))) (LongCell (slice_range image (at + 4) (at + 8)) size (number_at image (at + 8) 8))) long.0) ∙ e in
          let no : ⊥ = cc in no)
    ]

long_stored : (image : List ℕ) (at size : ℕ) (part : Part) (prefix : List ℕ) (size' address : ℕ) → text_at image at size ≡ LongCell prefix size' address → size' ≤ text_limit (length image) → LiesIn (length image) part (LongCell prefix size' address) → first_damage (text_rules image at size part) ≡ None
long_stored image at size part prefix size' address e most lies =
    elim (leb_tells size 12) [
      | inl short ↦
          absurd (let cell : ShortCell (slice_range image (at + 4) (at + 4 + size)) ≡ LongCell prefix size' address = sym (ap (λ b. cond b (ShortCell (slice_range image (at + 4) (at + 4 + size))) (LongCell (slice_range image (at + 4) (at + 8)) size (number_at image (at + 8) 8))) short.0) ∙ e in
          let no : ⊥ = cc in no)
      | inr long ↦
          let cell : LongCell (slice_range image (at + 4) (at + 8)) size (number_at image (at + 8) 8) ≡ LongCell prefix size' address = sym (ap (λ b. cond b (ShortCell (slice_range image (at + 4) (at + 4 + size))) (LongCell (slice_range image (at + 4) (at + 8)) size (number_at image (at + 8) 8))) long.0) ∙ e in
          let same : size ≡ size' = cc in
          let there : number_at image (at + 8) 8 ≡ address = cc in
          let holds : (address_rule (length image) size (number_at image (at + 8) 8) part).holds ≡ true =
          and_from (not (eqb part.heap no_heap)) _ (ap not (ne_eqb part.heap no_heap lies.0))
          (and_from (leb (part.base + 64) (number_at image (at + 8) 8)) (leb (number_at image (at + 8) 8 + size) (part.base + length image)) (le-leb _ _ (omega (arith, lies.1))) (le-leb _ _ (omega (arith, lies.2)))) in
          cons_sound (size_rule (length image) size) (text_rule image at size part ∷ []) (le-leb size (text_limit (length image)) (omega arith))
          (cons_sound (text_rule image at size part) []
          (ap (λ b. (cond b (pad_rule (slice_range image (at + 4 + size) (at + 16))) (address_rule (length image) size (number_at image (at + 8) 8) part)).holds) long.0 ∙ holds) refl)
    ]

-- the rules of a cell that was written
pub kind_rules_stored : (kind : CellKind) (image : List ℕ) (at : ℕ) (part : Part) (cell : StoredCell) → at + cell_width kind ≤ length image → 4096 ≤ length image → cell ≢ NullCell → Takes kind (text_limit (length image)) cell → StoresAt kind image at cell → (kind ≡ Text → LiesIn (length image) part cell) → first_damage (kind_rules kind image at part) ≡ None
unfolding kind_rules cell_at
kind_rules_stored kind image at part NullCell fits page there takes stored lies = absurd (there refl)
kind_rules_stored Bit image at part (NumberCell z) fits page there takes stored lies = cons_sound (bit_rule (slice_index image at)) [] (le-leb (slice_index image at) 1 (bit_stored (slice_index image at) z stored takes.1)) refl
kind_rules_stored Four image at part (NumberCell z) fits page there takes stored lies = refl
kind_rules_stored Eight image at part (NumberCell z) fits page there takes stored lies = refl
kind_rules_stored Sixteen image at part (NumberCell z) fits page there takes stored lies = refl
kind_rules_stored Text image at part (NumberCell z) fits page there takes stored lies = absurd takes
kind_rules_stored Bit image at part (ShortCell text) fits page there takes stored lies = absurd takes
kind_rules_stored Four image at part (ShortCell text) fits page there takes stored lies = absurd takes
kind_rules_stored Eight image at part (ShortCell text) fits page there takes stored lies = absurd takes
kind_rules_stored Sixteen image at part (ShortCell text) fits page there takes stored lies = absurd takes
kind_rules_stored Text image at part (ShortCell text) fits page there takes stored lies = short_stored image at (number_at image at 4) part text fits page stored.0 stored.1
kind_rules_stored Bit image at part (LongCell prefix size address) fits page there takes stored lies = absurd takes
kind_rules_stored Four image at part (LongCell prefix size address) fits page there takes stored lies = absurd takes
kind_rules_stored Eight image at part (LongCell prefix size address) fits page there takes stored lies = absurd takes
kind_rules_stored Sixteen image at part (LongCell prefix size address) fits page there takes stored lies = absurd takes
kind_rules_stored Text image at part (LongCell prefix size address) fits page there takes stored lies = long_stored image at (number_at image at 4) part prefix size address stored takes.1 (lies refl)

-- what the rule on an address says
pub record AddressFits (page size address : ℕ) (part : Part) : Type 0 where
  pub heap : part.heap ≢ no_heap
  pub low : part.base + 64 ≤ address
  pub high : address + size ≤ part.base + page

pub address_fits : (page size address : ℕ) (part : Part) → (address_rule page size address part).holds ≡ true → AddressFits page size address part
address_fits page size address part h =
    let both = and_parts (not (eqb part.heap no_heap)) (leb (part.base + 64) address && leb (address + size) (part.base + page)) h in
    let ends = and_parts (leb (part.base + 64) address) (leb (address + size) (part.base + page)) both.1 in
    record {
      heap = λ e. eqb-false part.heap no_heap (not-true (eqb part.heap no_heap) both.0) e;
      low = leb-true _ _ ends.0;
      high = leb-true _ _ ends.1;
    }

pub address_holds : (page size address : ℕ) (part : Part) → AddressFits page size address part → (address_rule page size address part).holds ≡ true
address_holds page size address part f =
    and_from (not (eqb part.heap no_heap)) (leb (part.base + 64) address && leb (address + size) (part.base + page)) (ap not (ne_eqb part.heap no_heap f.heap))
    (and_from (leb (part.base + 64) address) (leb (address + size) (part.base + page)) (le-leb _ _ f.low) (le-leb _ _ f.high))

-- the rules of a long text
pub long_rules : (image : List ℕ) (at : ℕ) (part : Part) → 12 < number_at image at 4 → first_damage (kind_rules Text image at part) ≡ None → (number_at image at 4 ≤ text_limit (length image)) × AddressFits (length image) (number_at image at 4) (number_at image (at + 8) 8) part
unfolding kind_rules
long_rules image at part long h =
    let size = number_at image at 4 in
    let first = sound_cons (size_rule (length image) size) (text_rule image at size part ∷ []) h in
    let second = sound_cons (text_rule image at size part) [] first.1 in
    let fails : leb size 12 ≡ false = lt-leb size 12 long in (
      leb-true size (text_limit (length image)) first.0,
      address_fits (length image) size (number_at image (at + 8) 8) part (sym (ap (λ b. (cond b (pad_rule (slice_range image (at + 4 + size) (at + 16))) (address_rule (length image) size (number_at image (at + 8) 8) part)).holds) fails) ∙ second.0),
    )

pub rules_long : (image : List ℕ) (at : ℕ) (part : Part) → 12 < number_at image at 4 → number_at image at 4 ≤ text_limit (length image) → AddressFits (length image) (number_at image at 4) (number_at image (at + 8) 8) part → first_damage (kind_rules Text image at part) ≡ None
unfolding kind_rules
rules_long image at part long most f =
    let size = number_at image at 4 in
    let fails : leb size 12 ≡ false = lt-leb size 12 long in
    cons_sound (size_rule (length image) size) (text_rule image at size part ∷ []) (le-leb size (text_limit (length image)) most)
    (cons_sound (text_rule image at size part) []
    (ap (λ b. (cond b (pad_rule (slice_range image (at + 4 + size) (at + 16))) (address_rule (length image) size (number_at image (at + 8) 8) part)).holds) fails ∙ address_holds (length image) size (number_at image (at + 8) 8) part f) refl)

-- the rules of a cell that isn't a long text don't speak of its part
pub short_rules : (kind : CellKind) (image : List ℕ) (at : ℕ) (old new : Part) → (is_text kind && ltb 12 (number_at image at 4)) ≡ false → kind_rules kind image at new ≡ kind_rules kind image at old
unfolding kind_rules
short_rules Bit image at old new h = refl
short_rules Four image at old new h = refl
short_rules Eight image at old new h = refl
short_rules Sixteen image at old new h = refl
short_rules Text image at old new h =
    let size = number_at image at 4 in
    let short : leb size 12 ≡ true = le-leb size 12 (ltb-false 12 size h) in
    ap (λ b. size_rule (length image) size ∷ cond b (pad_rule (slice_range image (at + 4 + size) (at + 16))) (address_rule (length image) size (number_at image (at + 8) 8) new) ∷ []) short
    ∙ sym (ap (λ b. size_rule (length image) size ∷ cond b (pad_rule (slice_range image (at + 4 + size) (at + 16))) (address_rule (length image) size (number_at image (at + 8) 8) old) ∷ []) short)
