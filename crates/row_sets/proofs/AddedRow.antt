-- The open row page with a row more: what is written, for every numbering of heap pages, carries its list on.
use Rattle.std.proofs.Common.{◌≡◌, ℕ, ◌+◌, ◌-◌, ◌<◌, ◌≤◌, Bool, true, false, List, [], ◌∷◌, ◌++◌, length, get_or, take, map, Option, refl, sym, ap, subst, inl, inr, ◌∙◌, arith}
use Rattle.std.specs.Prelude.{nat_lt, if◌then◌else◌, slice_range}
use Rattle.std.proofs.lemmas.Bool.{ltb-true, cases_lt, cases_eq}
use Rattle.row_image.specs.declared.layout.CellKind.{CellKind}
use Rattle.row_image.specs.declared.image.ImageKind.TheVariants.{Rows}
use Rattle.row_image.specs.declared.image.Part.{Part}
use Rattle.row_image.specs.Bytes.{IsPage}
use Rattle.row_image.specs.Cells.{ShortCell, LongCell}
use Rattle.row_image.specs.Flat.{flat, flattened}
use Rattle.row_image.specs.Image.{part_count, part_at, parts_of, no_heap, no_part}
use Rattle.row_image.specs.Rules.{text_limit}
use Rattle.row_image.specs.Texts.{CellValue, NullValue, NumberValue, TextValue, ValueRow, value_of, text_rows, heap_of}
use Rattle.row_image.proofs.AcceptedLemmas.{sound_of}
use Rattle.row_image.proofs.ByteLemmas.{SameOn, number_at_same}
use Rattle.row_image.proofs.FlatPieces.{flat_length, flat_at_head}
use Rattle.row_image.proofs.FlatParts.{flat_part_at}
use Rattle.row_image.proofs.PartLemmas.{parts_length, parts_at}
use Rattle.row_image.proofs.WrittenAccepted.{parts_most}
use Rattle.row_image.proofs.WrittenFlat.{rows_lie}
use Rattle.string_heap.specs.Heaps.{used, KeepsTexts}
use Rattle.page_body.specs.Shows.{most_frames}
use Rattle.page_body.specs.declared.open.OpenPage.{OpenPage}
use Rattle.rebase_pins.specs.Rows.{page_rows}
use Rattle.rebase_pins.proofs.ByNumber.{rows_by_number}
use Rattle.rebase_pins.specs.Fits.{RowFits}
use Rattle.row_sets.specs.Cells.{AllFit, long_of, long_in, long_total, cell_of, cells_of}
use Rattle.row_sets.specs.LongTexts.{TextAt, TextsAt}
use Rattle.row_sets.specs.Put.{PutsRow, KeepsOpen, put_values}
use Rattle.row_sets.specs.Writers.{Reaches, Reached, AreParts, IsOpenRows}
use Rattle.row_sets.proofs.Numbering.{by_number, here_at, here_none}

-- a value, back from its cell
value_back : (heap : List ℕ) (base place : ℕ) (v : CellValue) → TextAt heap place v → value_of heap (flattened base (cell_of v (base + place))) ≡ v
value_back heap base place NullValue text = refl
value_back heap base place (NumberValue z) text = refl
value_back heap base place (TextValue text) there = by_test (nat_lt 12 (length text)) refl
  where
    by_test : (b : Bool) → nat_lt 12 (length text) ≡ b → value_of heap (flattened base (if b then LongCell (take 4 text) (length text) (base + place) else ShortCell text)) ≡ TextValue text
    by_test true is = ap (λ n. TextValue (slice_range heap n (n + length text))) (let e : base + place - base ≡ place = omega arith in e) ∙ ap TextValue (there is)
    by_test false is = refl

pub values_back : (heap : List ℕ) (base place : ℕ) (vs : List CellValue) → TextsAt heap place vs → map (λ cell. value_of heap (flattened base cell)) (cells_of vs (base + place)) ≡ vs
values_back heap base place [] texts = refl
values_back heap base place (v ∷ vs) texts =
    let head = value_back heap base place v texts.0 in
    let rest = values_back heap base (place + long_of v) vs texts.1 in
    let e : base + place + long_of v ≡ base + (place + long_of v) = omega arith in
    let tail = ap (λ a. map (λ cell. value_of heap (flattened base cell)) (cells_of vs a)) e ∙ rest in
    λ i. head i ∷ tail i

long_yes : (text : List ℕ) → nat_lt 12 (length text) ≡ true → long_of (TextValue text) ≡ length text
long_yes text is = ap (λ b. if b then length text else 0) is

text_short : (heap : List ℕ) (place : ℕ) (v : CellValue) → long_of v ≡ 0 → TextAt heap place v
text_short heap place NullValue none = tt
text_short heap place (NumberValue z) none = tt
text_short heap place (TextValue text) none = λ is. let l = ltb-true 12 (length text) is in let e = long_yes text is in absurd (omega (arith, l, e, none))

pub texts_short : (heap : List ℕ) (place : ℕ) (vs : List CellValue) → long_in vs ≡ 0 → TextsAt heap place vs
texts_short heap place [] none = tt
texts_short heap place (v ∷ vs) none = (text_short heap place v (omega (arith, none)), texts_short heap (place + long_of v) vs (omega (arith, none)))

text_reaches : (bytes later : List ℕ) (place : ℕ) (v : CellValue) → TextAt bytes place v → 64 ≤ place → place + long_of v ≤ 64 + used bytes → Reaches bytes later → TextAt later place v
text_reaches bytes later place NullValue text low high reaches = tt
text_reaches bytes later place (NumberValue z) text low high reaches = tt
text_reaches bytes later place (TextValue text) there low high reaches = λ is. reaches place (place + length text) low (let e = long_yes text is in omega (arith, e, high)) ∙ there is

-- texts stay where they are on a heap page that goes on
pub texts_reach : (bytes later : List ℕ) (place : ℕ) (vs : List CellValue) → TextsAt bytes place vs → 64 ≤ place → place + long_in vs ≤ 64 + used bytes → Reaches bytes later → TextsAt later place vs
texts_reach bytes later place [] texts low high reaches = tt
texts_reach bytes later place (v ∷ vs) texts low high reaches =
    (text_reaches bytes later place v texts.0 low (omega (arith, high)) reaches, texts_reach bytes later (place + long_of v) vs texts.1 (omega (arith, low)) (omega (arith, high)) reaches)

-- texts that were put reach on
pub reaches_on : (old new later : List ℕ) → KeepsTexts old new → Reaches new later → Reaches old later
reaches_on old new later kept reaches = λ from to low high. reaches from to low (let m = kept.more in omega (arith, high, m)) ∙ kept.same from to low high

pub fit_append : (kinds : List CellKind) (limit : ℕ) (rows : List ValueRow) (row : ValueRow) → AllFit kinds limit rows → RowFits kinds limit row.values → AllFit kinds limit (rows ++ row ∷ [])
fit_append kinds limit [] row all one = (one, tt)
fit_append kinds limit (r ∷ rs) row all one = (all.0, fit_append kinds limit rs row all.1 one)

pub total_append : (xs ys : List ValueRow) → long_total (xs ++ ys) ≡ long_total xs + long_total ys
total_append [] ys = omega arith
total_append (x ∷ xs) ys = let r = total_append xs ys in omega (arith, r)

module _ (kinds : List CellKind) (page_bytes count count' first : ℕ) (heaps heaps' : List (List ℕ)) (p p' : OpenPage) (vs : List CellValue) (hash : ℕ) (heap : Option (ℕ × ℕ)) (at : ℕ)
    (low : first < no_heap) (page : IsPage page_bytes) (old : IsOpenRows kinds page_bytes count first heaps p) (keeps : KeepsOpen p p')
    (puts : PutsRow kinds p.frame.bytes.items p'.frame.bytes.items vs hash heap at) (parts : AreParts count' first (parts_of p'.frame.bytes.items)) (most : count' ≤ 4)
    (none : count' ≡ 0 → get_or heaps' 0 [] ≡ []) (four : get_or heaps' 4 [] ≡ []) (fits : RowFits kinds (text_limit page_bytes) vs)
    (grown : (later : ℕ → List ℕ) → Reached count' first heaps' later → Reached count first heaps later)
    (given : (later : ℕ → List ℕ) → Reached count' first heaps' later → put_values (heap_of later heap) heap vs at ≡ vs) where
  abbrev image : List ℕ
  image = p'.frame.bytes.items

  abbrev old_flat : List ℕ
  old_flat = flat (Rows kinds) p.frame.bytes.items

  abbrev new_flat : List ℕ
  new_flat = flat (Rows kinds) p'.frame.bytes.items

  abbrev row : ValueRow
  row = record { hash = hash; values = vs }

  long : length image ≡ page_bytes
  long = keeps.long ∙ old.whole.long

  here_reached : Reached count' first heaps' (by_number first heaps')
  here_reached k less from to lo hi = ap (λ (z : List ℕ). slice_range z from to) (here_at first heaps' k low (omega (arith, less, most)))

  heap_at : (k : ℕ) → k < part_count image → get_or heaps' k [] ≡ by_number first heaps' (part_at image k).heap
  heap_at k below =
      let counted = parts_length image in
      let is = parts_at image k no_part below in
      elim (cases_lt k count') [
        | inl less ↦ sym (here_at first heaps' k low (omega (arith, less, most))) ∙ ap (λ (n : ℕ). by_number first heaps' n) (sym (parts.heaps k less).1 ∙ ap (λ (q : Part). q.heap) is)
        | inr more ↦ elim (cases_eq count' 0) [
          | inl zero_count ↦
              let one = parts.one zero_count in
              let first_part : k ≡ 0 = omega (arith, one, counted, below) in
              let bare = parts.bare zero_count (omega (arith, counted, below)) in
              let heap_is : (part_at image k).heap ≡ no_heap = ap (λ (q : Part). q.heap) (sym is) ∙ ap (λ (j : ℕ). (get_or (parts_of image) j no_part).heap) first_part ∙ bare in
              ap (λ (j : ℕ). get_or heaps' j []) first_part ∙ none zero_count ∙ sym (ap (λ (n : ℕ). by_number first heaps' n) heap_is ∙ here_none first heaps' low)
          | inr some ↦ let few = parts.few (omega (arith, some)) in absurd (omega (arith, few, counted, below, more))
        ]
      ]

  by_numbers : page_rows kinds new_flat heaps' ≡ text_rows kinds new_flat (by_number first heaps')
  by_numbers =
      let least = page.least in
      let lies = rows_lie kinds image puts.accepted (omega (arith, long, least)) in
      let few = parts_most kinds image (sound_of kinds image puts.accepted).parts in
      let head : SameOn image new_flat 0 32 = record { long = flat_length kinds image lies; same = λ k lo hi. flat_at_head kinds image k lies hi } in
      let count : part_count new_flat ≡ part_count image = number_at_same image new_flat 0 32 head 12 4 (omega arith) (omega arith) in
      rows_by_number kinds new_flat heaps' (by_number first heaps') four (here_none first heaps' low)
      (λ k below. heap_at k (omega (arith, below, count)) ∙ ap (λ (q : Part). by_number first heaps' q.heap) (sym (flat_part_at kinds image k lies (omega (arith, below, count, few)) (omega (arith, below, count)))))

  added : (later : ℕ → List ℕ) → Reached count' first heaps' later → text_rows kinds new_flat later ≡ page_rows kinds old_flat heaps ++ row ∷ []
  added later reached =
      puts.texts later
      ∙ ap (λ (z : List ValueRow). z ++ record { hash = hash; values = put_values (heap_of later heap) heap vs at } ∷ []) (old.stable later (grown later reached))
      ∙ ap (λ (z : List CellValue). page_rows kinds old_flat heaps ++ record { hash = hash; values = z } ∷ []) (given later reached)

  pub rows_added : page_rows kinds new_flat heaps' ≡ page_rows kinds old_flat heaps ++ row ∷ []
  rows_added = by_numbers ∙ added (by_number first heaps') here_reached

  pub open_added : IsOpenRows kinds page_bytes count' first heaps' p'
  open_added = record {
    whole = record {
      kind_is = keeps.kind ∙ old.whole.kind_is;
      long = long;
      number = let n = keeps.number in let m = old.whole.number in subst (λ (z : ℕ). z < most_frames) (sym n) m;
      accepted = puts.accepted;
    };
    parts = parts;
    stable = λ later reached. added later reached ∙ sym rows_added;
    fit = subst (AllFit kinds (text_limit page_bytes)) (sym rows_added) (fit_append kinds (text_limit page_bytes) (page_rows kinds old_flat heaps) row old.fit fits);
  }
