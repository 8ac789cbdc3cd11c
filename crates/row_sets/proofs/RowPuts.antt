-- A row's cells, as they are handed to the row page.
use Rattle.std.proofs.Common.{◌≡◌, ◌≢◌, ℕ, zero, suc, ◌+◌, ◌*◌, ◌<◌, ◌≤◌, Bool, true, false, not, List, [], ◌∷◌, length, get_or, take, map, Option, Some, None, refl, sym, ap, subst, inl, inr, ◌∙◌, arith}
use Rattle.std.specs.Prelude.{nat_lt, if◌then◌else◌, ◌&&◌, ◌==◌}
use Rattle.std.specs.List.{list_any}
use Rattle.std.proofs.lemmas.Bool.{lt-ltb, ltb-true, cases_lt, false≢true}
use Rattle.std.proofs.lemmas.List.{length-map, get_or-map}
use Rattle.std.proofs.lemmas.List.FromFn.{length-map-range_with_len}
use Rattle.row_image.specs.declared.layout.CellKind.{CellKind}
use Rattle.row_image.specs.declared.layout.CellKind.TheVariants.{Bit, Four, Eight, Sixteen, Text}
use Rattle.row_image.specs.declared.cell.CellIn.{CellIn}
use Rattle.row_image.specs.declared.cell.CellIn.TheVariants.{Null}
use Rattle.row_image.specs.declared.image.Part.{Part}
use Rattle.row_image.specs.declared.image.RowPut.{RowPut}
use Rattle.row_image.specs.declared.image.RowPut.TheVariants.{Wrote, PageFull, PartsFull}
use Rattle.row_image.specs.Cells.{StoredCell, NullCell, NumberCell, ShortCell, LongCell, given_cell, Takes, Meets}
use Rattle.row_image.specs.Flat.{flattened, base_of}
use Rattle.row_image.specs.Image.{row_count, rows_of, stored_row}
use Rattle.row_image.specs.Parts.{is_long, wanted, LiesOn, HoldsTexts, joins, begins_fifth}
use Rattle.row_image.specs.Texts.{CellValue, NullValue, NumberValue, TextValue, value_of, heap_of, given_texts}
use Rattle.row_image.specs.Bytes.{IsPage}
use Rattle.row_image.specs.Layout.{is_text, has_texts}
use Rattle.row_image.specs.Rules.{text_limit}
use Rattle.row_image.proofs.FitLemmas.{texts_fit_page}
use Rattle.row_image.proofs.WrittenAccepted.{text_column}
use Rattle.row_image.proofs.WrittenLemmas.{wanted_long}
use Rattle.rebase_pins.specs.Fits.{Fits, RowFits}
use Rattle.row_sets.specs.Cells.{text_columns, long_of, long_in, cell_of, cells_of}
use Rattle.ooc_types.specs.declared.schema.SqlType.{SqlType}
use Rattle.rebase_pins.specs.Seen.{value_read}
use Rattle.rebase_pins.specs.declared.cell_read.CellRead.{CellRead}
use Rattle.row_sets.specs.SetRows.{cell_kind}
use Rattle.row_sets.specs.Sets.{AreColumns}
use Rattle.row_sets.specs.Put.{HasPlace, put_values}
use Rattle.row_sets.proofs.RowCells.{long_part, cells_long, cells_at}

pub fits_long : (kinds : List CellKind) (limit : ℕ) (vs : List CellValue) → RowFits kinds limit vs → length vs ≡ length kinds
fits_long [] limit [] fits = refl
fits_long [] limit (v ∷ vs) fits = absurd fits
fits_long (k ∷ ks) limit [] fits = absurd fits
fits_long (k ∷ ks) limit (v ∷ vs) fits = let r = fits_long ks limit vs fits.1 in omega (arith, r)

pub fits_at : (kinds : List CellKind) (limit : ℕ) (vs : List CellValue) (k : ℕ) → RowFits kinds limit vs → k < length kinds → Fits (get_or kinds k Bit) limit (get_or vs k NullValue)
fits_at [] limit vs k fits below = absurd (omega (arith, below))
fits_at (q ∷ ks) limit [] k fits below = absurd fits
fits_at (q ∷ ks) limit (v ∷ vs) zero fits below = fits.0
fits_at (q ∷ ks) limit (v ∷ vs) (suc k) fits below = fits_at ks limit vs k fits.1 (omega (arith, below))

takes_text : (limit size at : ℕ) (text : List ℕ) (b : Bool) → nat_lt 12 (length text) ≡ b → length text ≤ limit → Takes Text limit (if b then LongCell (take 4 text) (length text) at else ShortCell text)
takes_text limit size at text true is most = (let l = ltb-true 12 (length text) is in omega (arith, l), most)
takes_text limit size at text false is most = elim (cases_lt 12 (length text)) [ inl more ↦ absurd (false≢true (sym is ∙ lt-ltb 12 (length text) more)) | inr low ↦ low ]

pub takes_cell : (kind : CellKind) (limit at : ℕ) (v : CellValue) → Fits kind limit v → Takes kind limit (cell_of v at)
takes_cell kind limit at NullValue fits = tt
takes_cell Bit limit at (NumberValue z) fits = fits
takes_cell Four limit at (NumberValue z) fits = fits
takes_cell Eight limit at (NumberValue z) fits = fits
takes_cell Sixteen limit at (NumberValue z) fits = fits
takes_cell Text limit at (NumberValue z) fits = absurd fits
takes_cell Bit limit at (TextValue text) fits = absurd fits
takes_cell Four limit at (TextValue text) fits = absurd fits
takes_cell Eight limit at (TextValue text) fits = absurd fits
takes_cell Sixteen limit at (TextValue text) fits = absurd fits
takes_cell Text limit at (TextValue text) fits = takes_text limit 0 at text (nat_lt 12 (length text)) refl fits

-- a text that doesn't lie in its cell
long_yes : (text : List ℕ) → nat_lt 12 (length text) ≡ true → long_of (TextValue text) ≡ length text
long_yes text is = ap (λ b. if b then length text else 0) is

lies_text : (page at : ℕ) (heap : Option (ℕ × ℕ)) (text : List ℕ) (b : Bool) → nat_lt 12 (length text) ≡ b → (b ≡ true → LiesOn page heap (LongCell (take 4 text) (length text) at)) → LiesOn page heap (if b then LongCell (take 4 text) (length text) at else ShortCell text)
lies_text page at None text true is long = long refl
lies_text page at (Some h) text true is long = long refl
lies_text page at None text false is long = tt
lies_text page at (Some h) text false is long = tt

lies_number : (page : ℕ) (heap : Option (ℕ × ℕ)) (cell : StoredCell) → is_long cell ≡ false → LiesOn page heap cell
lies_number page None NullCell short = tt
lies_number page (Some h) NullCell short = tt
lies_number page None (NumberCell z) short = tt
lies_number page (Some h) (NumberCell z) short = tt
lies_number page None (ShortCell text) short = tt
lies_number page (Some h) (ShortCell text) short = tt
lies_number page None (LongCell prefix size address) short = absurd (false≢true (sym short))
lies_number page (Some h) (LongCell prefix size address) short = absurd (false≢true (sym short))

lies_long : (page : ℕ) (parts : List Part) (vs : List CellValue) (heap : Option (ℕ × ℕ)) (at before : ℕ) (text : List ℕ) → HasPlace page parts vs heap at → before + length text ≤ long_in vs → 12 < length text → LiesOn page heap (LongCell (take 4 text) (length text) (at + before))
lies_long page parts vs None at before text place part long = let none = place.some refl in absurd (omega (arith, none, part, long))
lies_long page parts vs (Some h) at before text place part long = let low = place.low in let high = place.high in (omega (arith, low), omega (arith, high, part))

lies_cell : (page : ℕ) (parts : List Part) (vs : List CellValue) (heap : Option (ℕ × ℕ)) (at before : ℕ) (v : CellValue) → HasPlace page parts vs heap at → before + long_of v ≤ long_in vs → LiesOn page heap (cell_of v (at + before))
lies_cell page parts vs heap at before NullValue place part = lies_number page heap NullCell refl
lies_cell page parts vs heap at before (NumberValue z) place part = lies_number page heap (NumberCell z) refl
lies_cell page parts vs heap at before (TextValue text) place part =
    lies_text page (at + before) heap text (nat_lt 12 (length text)) refl
    (λ is. lies_long page parts vs heap at before text place (let e = long_yes text is in omega (arith, e, part)) (ltb-true 12 (length text) is))

long_there : (vs : List CellValue) → 0 < long_in vs → (k : ℕ) × (k < length vs) × (0 < long_of (get_or vs k NullValue))
long_there [] some = absurd (omega (arith, some))
long_there (v ∷ vs) some = elim (cases_lt 0 (long_of v)) [
  | inl here ↦ (0, omega arith, here)
  | inr none ↦ let rest = long_there vs (omega (arith, some, none)) in (suc rest.0, (let r = rest.1 in omega (arith, r)), rest.2)
]

is_long_cell : (v : CellValue) (at : ℕ) → 0 < long_of v → is_long (cell_of v at) ≡ true
is_long_cell NullValue at some = absurd (omega (arith, some))
is_long_cell (NumberValue z) at some = absurd (omega (arith, some))
is_long_cell (TextValue text) at some = by_test (nat_lt 12 (length text)) refl
  where
    by_test : (b : Bool) → nat_lt 12 (length text) ≡ b → is_long (if b then LongCell (take 4 text) (length text) at else ShortCell text) ≡ true
    by_test true is = refl
    by_test false is = let e = ap (λ b. if b then length text else 0) is in absurd (omega (arith, e, some))

pub fifth_none : (parts : List Part) → begins_fifth parts None ≡ false
unfolding begins_fifth joins
fifth_none [] = refl
fifth_none (p ∷ ps) = ap (λ b. not (b && true) && (length (p ∷ ps) == 4)) (lt-ltb 0 (suc (length ps)) (omega arith))

map_map : {X Y Z : Type 0} (f : Y → Z) (g : X → Y) (xs : List X) → map (λ x. f (g x)) xs ≡ map f (map g xs)
map_map f g [] = refl
map_map f g (x ∷ xs) = ap (λ zs. f (g x) ∷ zs) (map_map f g xs)

same_none : {X : Type 0} (b : Bool) → (if b then (let n : Option X = None in n) else None) ≡ None
same_none true = refl
same_none false = refl

none_wanted : (cells : List CellIn) → wanted cells None ≡ None
unfolding wanted
none_wanted cells = same_none (list_any (λ cell. is_long (given_cell cell)) cells)

module _ (kinds : List CellKind) (limit page : ℕ) (parts : List Part) (vs : List CellValue) (heap : Option (ℕ × ℕ)) (at : ℕ) (cells : List CellIn) (fits : RowFits kinds limit vs) (filled : map given_cell cells ≡ cells_of vs at) where
  pub cells_count : length cells ≡ length vs
  cells_count = sym (length-map cells given_cell) ∙ ap length filled ∙ cells_long vs at

  pub cell_is : (k : ℕ) → k < length vs → given_cell (get_or cells k Null) ≡ cell_of (get_or vs k NullValue) (at + long_in (take k vs))
  cell_is k below = sym (get_or-map given_cell cells k Null NullCell (omega (arith, cells_count, below))) ∙ ap (λ cs. get_or cs k NullCell) filled ∙ cells_at vs at k NullCell below

  pub row_meets : Meets kinds limit cells
  row_meets =
      let long = fits_long kinds limit vs fits in
      record {
        count = cells_count ∙ long;
        each = λ k below. subst (Takes (get_or kinds k Bit) limit) (sym (cell_is k (omega (arith, below, long)))) (takes_cell (get_or kinds k Bit) limit (at + long_in (take k vs)) (get_or vs k NullValue) (fits_at kinds limit vs k fits below));
      }

  pub row_holds : HasPlace page parts vs heap at → HoldsTexts page parts cells heap
  row_holds place = record {
    is = place.is;
    each = λ k below. let inside : k < length vs = omega (arith, cells_count, below) in
        subst (LiesOn page heap) (sym (cell_is k inside)) (lies_cell page parts vs heap at (long_in (take k vs)) (get_or vs k NullValue) place (long_part vs k inside));
  }

  pub row_wants : HasPlace page parts vs heap at → wanted cells heap ≡ heap
  row_wants place = elim (cases_lt 0 (long_in vs)) [
    | inl some ↦
        let there = long_there vs some in
        let k = there.0 in
        wanted_long cells heap k (let b = there.1 in omega (arith, cells_count, b)) (ap is_long (cell_is k there.1) ∙ is_long_cell (get_or vs k NullValue) (at + long_in (take k vs)) there.2)
    | inr none ↦ let e = place.none (omega (arith, none)) in ap (wanted cells) e ∙ none_wanted cells ∙ sym e
  ]

  pub row_texts : (later : ℕ → List ℕ) (hash : ℕ) → given_texts later cells hash heap ≡ record { hash = hash; values = put_values (heap_of later heap) heap vs at }
  row_texts later hash =
      let f = λ (cell : StoredCell). value_of (heap_of later heap) (flattened (base_of heap) cell) in
      let e = map_map f given_cell cells ∙ ap (map f) filled in
      λ i. record { hash = hash; values = e i }

pub rows_counted : (kinds : List CellKind) (image : List ℕ) → length (rows_of kinds image) ≡ row_count image
unfolding rows_of
rows_counted kinds image = length-map-range_with_len (λ row. stored_row kinds image row) 0 (row_count image)

pub put_wrote : (put : RowPut) → put ≢ Wrote → put ≢ PageFull → put ≢ PartsFull → ⊥
put_wrote Wrote a b c = a refl
put_wrote PageFull a b c = b refl
put_wrote PartsFull a b c = c refl

kind_of_long : (kind : CellKind) (limit : ℕ) (v : CellValue) → Fits kind limit v → 0 < long_of v → kind ≡ Text
kind_of_long kind limit NullValue fits some = absurd (omega (arith, some))
kind_of_long kind limit (NumberValue z) fits some = absurd (omega (arith, some))
kind_of_long Bit limit (TextValue text) fits some = absurd fits
kind_of_long Four limit (TextValue text) fits some = absurd fits
kind_of_long Eight limit (TextValue text) fits some = absurd fits
kind_of_long Sixteen limit (TextValue text) fits some = absurd fits
kind_of_long Text limit (TextValue text) fits some = refl

-- a row with a long text has a column of texts
pub has_texts_of : (kinds : List CellKind) (limit : ℕ) (vs : List CellValue) → RowFits kinds limit vs → 0 < long_in vs → has_texts kinds ≡ true
has_texts_of kinds limit vs fits some =
    let there = long_there vs some in
    let long = fits_long kinds limit vs fits in
    let inside : there.0 < length kinds = let b = there.1 in omega (arith, b, long) in
    text_column kinds there.0 inside (kind_of_long (get_or kinds there.0 Bit) limit (get_or vs there.0 NullValue) (fits_at kinds limit vs there.0 fits inside) there.2)

value_most : (kind : CellKind) (limit : ℕ) (v : CellValue) → Fits kind limit v → long_of v ≤ (if is_text kind then 1 else 0) * limit
value_most kind limit NullValue fits = omega arith
value_most kind limit (NumberValue z) fits = omega arith
value_most Bit limit (TextValue text) fits = absurd fits
value_most Four limit (TextValue text) fits = absurd fits
value_most Eight limit (TextValue text) fits = absurd fits
value_most Sixteen limit (TextValue text) fits = absurd fits
value_most Text limit (TextValue text) fits = by_test (nat_lt 12 (length text))
  where
    by_test : (b : Bool) → (if b then length text else 0) ≤ 1 * limit
    by_test true = omega (arith, fits)
    by_test false = omega arith

sum_times : (a b c : ℕ) → (a + b) * c ≡ a * c + b * c
sum_times a b c = grind arith

-- a row's long texts are at most as many as its columns of texts, each within the limit
pub long_most : (kinds : List CellKind) (limit : ℕ) (vs : List CellValue) → RowFits kinds limit vs → long_in vs ≤ text_columns kinds * limit
long_most [] limit [] fits = omega arith
long_most [] limit (v ∷ vs) fits = absurd fits
long_most (k ∷ ks) limit [] fits = absurd fits
long_most (k ∷ ks) limit (v ∷ vs) fits =
    let a = value_most k limit v fits.0 in
    let b = long_most ks limit vs fits.1 in
    let c = sum_times (if is_text k then 1 else 0) (text_columns ks) limit in
    omega (arith, a, b, c)

times_more : (a b c : ℕ) → a ≤ b → a * c ≤ b * c
times_more a b c more = grind arith

-- and so they fit a heap page
pub long_fits : (kinds : List CellKind) (page : ℕ) (vs : List CellValue) → IsPage page → text_columns kinds ≤ 64 → RowFits kinds (text_limit page) vs → 64 + long_in vs ≤ page
long_fits kinds page vs is few fits =
    let a = long_most kinds (text_limit page) vs fits in
    let b = times_more (text_columns kinds) 64 (text_limit page) few in
    let c = texts_fit_page page is in
    omega (arith, a, b, c)

pub columns_few : (kinds : List SqlType) (layout : List CellKind) (limit : ℕ) (row : List CellRead) → AreColumns kinds layout → RowFits layout limit (map value_read row) → length row ≤ 65
columns_few kinds layout limit row columns fits =
    let a = fits_long layout limit (map value_read row) fits in
    let b = length-map row value_read in
    let c = ap length columns.layout_is in
    let d = length-map kinds cell_kind in
    let f = columns.few in
    omega (arith, a, b, c, d, f)

pub layout_few : (kinds : List SqlType) (layout : List CellKind) → AreColumns kinds layout → length layout ≤ 65
layout_few kinds layout columns = let c = ap length columns.layout_is in let d = length-map kinds cell_kind in let f = columns.few in omega (arith, c, d, f)
