-- A row page with its heap pages, and the pins on them.
use Rattle.std.specs.Prelude.{◌≡◌, ◌≢◌, ℕ, ◌*◌, ◌<◌, List, [], ◌∷◌, get_or, Option, Some, None, IfSome}
use Rattle.row_image.specs.declared.layout.CellKind.{CellKind}
use Rattle.row_image.specs.declared.image.ImageKind.TheVariants.{Rows, Heap}
use Rattle.row_image.specs.Image.{part_count, part_at, no_heap}
use Rattle.page_body.specs.View.{PoolTerms, PoolView}
use Rattle.page_body.specs.Keeps.{Reserves}
use Rattle.rebase_pins.specs.declared.row_page.RowPage.{RowPage}
use Rattle.rebase_pins.specs.declared.row_page.RowPins.{RowPins}

-- the heap pages by part
abbrev pub heaps_of : {H : Type 0} → RowPage H → List (Option H)
heaps_of page = page.heap0 ∷ page.heap1 ∷ page.heap2 ∷ page.heap3 ∷ []

abbrev pub heap_pins_of : {Q : Type 0} → RowPins Q → List (Option Q)
heap_pins_of pins = pins.heap0 ∷ pins.heap1 ∷ pins.heap2 ∷ pins.heap3 ∷ []

abbrev pub changed : {X Y : Type 0} → (X → Y) → Option X → Option Y
changed f None = None
changed f (Some x) = Some (f x)

-- the pages under the pins
abbrev pub under_pins : {Page Pin : Type 0} → PoolTerms Page Pin → RowPins Pin → RowPage Page
under_pins t pins = record {
  rows = t.under pins.rows;
  heap0 = changed t.under pins.heap0;
  heap1 = changed t.under pins.heap1;
  heap2 = changed t.under pins.heap2;
  heap3 = changed t.under pins.heap3;
}

abbrev pub ids_in : {Page Pin : Type 0} → PoolTerms Page Pin → List (Option Page) → List ℕ
ids_in t [] = []
ids_in t (None ∷ heaps) = ids_in t heaps
ids_in t (Some heap ∷ heaps) = t.id heap ∷ ids_in t heaps

-- the numbers of the row page and of its heap pages
abbrev pub ids_of : {Page Pin : Type 0} → PoolTerms Page Pin → RowPage Page → List ℕ
ids_of t page = t.id page.rows ∷ ids_in t (heaps_of page)

-- the row page is one of these kinds, and the others are heap pages. It speaks of no state
pub record IsFormed {Page Pin : Type 0} (t : PoolTerms Page Pin) (kinds : List CellKind) (page : RowPage Page) : Type 0 where
  pub rows : t.kind page.rows ≡ Rows kinds
  pub heap0 : IfSome page.heap0 (λ p. t.kind p ≡ Heap)
  pub heap1 : IfSome page.heap1 (λ p. t.kind p ≡ Heap)
  pub heap2 : IfSome page.heap2 (λ p. t.kind p ≡ Heap)
  pub heap3 : IfSome page.heap3 (λ p. t.kind p ≡ Heap)

-- all of them are live
pub record IsLive {Page Pin : Type 0} (a : PoolView Page Pin) (page : RowPage Page) : Type 0 where
  pub rows : a.live page.rows
  pub heap0 : IfSome page.heap0 a.live
  pub heap1 : IfSome page.heap1 a.live
  pub heap2 : IfSome page.heap2 a.live
  pub heap3 : IfSome page.heap3 a.live

-- all pins are this worker's, which has at least so many on their pages
pub record IsOwned {Page Pin : Type 0} (t : PoolTerms Page Pin) (a : PoolView Page Pin) (pins : RowPins Pin) : Type 0 where
  pub rows : a.valid pins.rows
  pub heap0 : IfSome pins.heap0 a.valid
  pub heap1 : IfSome pins.heap1 a.valid
  pub heap2 : IfSome pins.heap2 a.valid
  pub heap3 : IfSome pins.heap3 a.valid
  pub counted : Reserves (ids_of t (under_pins t pins)) a

-- where a heap page lies: its frame's number times the page, and 0 where there is none
abbrev pub base_under : {Page Pin : Type 0} → PoolTerms Page Pin → ℕ → Option Pin → ℕ
base_under t page_bytes None = 0
base_under t page_bytes (Some pin) = t.frame pin * page_bytes

-- each part that has a heap page has as its base the place where that page lies. It speaks of no state
abbrev pub IsPlaced : {Page Pin : Type 0} → PoolTerms Page Pin → ℕ → RowPins Pin → Type 0
IsPlaced t page_bytes pins =
    (part : ℕ) → part < part_count (t.image pins.rows) → (part_at (t.image pins.rows) part).heap ≢ no_heap
    → (part_at (t.image pins.rows) part).base ≡ base_under t page_bytes (get_or (heap_pins_of pins) part None)

-- the bytes under a pin, and none where there is no pin
abbrev pub image_or_none : {Page Pin : Type 0} → PoolTerms Page Pin → Option Pin → List ℕ
image_or_none t None = []
image_or_none t (Some pin) = t.image pin
