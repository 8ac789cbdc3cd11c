-- What becomes of open pages when a row is put on them.
use Rattle.std.specs.Prelude.{◌≡◌, ℕ, ◌+◌, ◌*◌, ◌<◌, ◌≤◌, if◌then◌else◌, List, [], ◌∷◌, ◌++◌, length, map, Option, None, IfSome}
use Rattle.row_image.specs.declared.limits.TheConstants.{HEAP_HEAD}
use Rattle.row_image.specs.declared.layout.CellKind.{CellKind}
use Rattle.row_image.specs.declared.image.Part.{Part}
use Rattle.row_image.specs.declared.image.ImageKind.TheVariants.{Rows}
use Rattle.row_image.specs.Flat.{flat, flattened, base_of}
use Rattle.row_image.specs.Image.{row_count, parts_of}
use Rattle.row_image.specs.Layout.{has_texts}
use Rattle.row_image.specs.Parts.{IsHeap, parts_with, last_part}
use Rattle.row_image.specs.Rules.{IsAccepted}
use Rattle.row_image.specs.Texts.{CellValue, value_of, text_rows, heap_of}
use Rattle.string_heap.specs.Heaps.{used}
use Rattle.page_body.specs.declared.open.OpenPage.{OpenPage}
use Rattle.row_sets.specs.Cells.{long_in, cells_of}

-- the values that a row's cells stand for, where its long texts lie from an address on, on the heap page of a number at a base
abbrev pub put_values : List ℕ → Option (ℕ × ℕ) → List CellValue → ℕ → List CellValue
put_values heap place values at = map (λ cell. value_of heap (flattened (base_of place) cell)) (cells_of values at)

-- a row was written behind the others
pub record PutsRow (kinds : List CellKind) (old new : List ℕ) (values : List CellValue) (hash : ℕ) (heap : Option (ℕ × ℕ)) (at : ℕ) : Type 0 where
  pub accepted : IsAccepted (Rows kinds) new
  pub count : row_count new ≡ row_count old + 1
  pub texts : (later : ℕ → List ℕ) → text_rows kinds (flat (Rows kinds) new) later ≡ text_rows kinds (flat (Rows kinds) old) later ++ record { hash = hash; values = put_values (heap_of later heap) heap values at } ∷ []
  pub parts : parts_of new ≡ (if has_texts kinds then parts_with (parts_of old) (row_count old) heap else parts_of old)

-- where a row's long texts are to lie: nowhere where it has none, else on a heap page that is given, from an address on
pub record HasPlace (page : ℕ) (parts : List Part) (values : List CellValue) (heap : Option (ℕ × ℕ)) (at : ℕ) : Type 0 where
  pub none : long_in values ≡ 0 → heap ≡ None
  pub some : heap ≡ None → long_in values ≡ 0
  pub is : IfSome heap (IsHeap page parts)
  pub low : IfSome heap (λ h. h.1 + HEAP_HEAD ≤ at)
  pub high : IfSome heap (λ h. at + long_in values ≤ h.1 + page)

-- the same open page with other bytes
pub record KeepsOpen (old new : OpenPage) : Type 0 where
  pub number : new.frame.number ≡ old.frame.number
  pub kind : new.kind ≡ old.kind
  pub long : length new.frame.bytes.items ≡ length old.frame.bytes.items

-- where an open heap page lies, and the address behind its texts
abbrev pub base_in : OpenPage → ℕ
base_in heap = heap.frame.number * length heap.frame.bytes.items

abbrev pub text_place : OpenPage → ℕ
text_place heap = base_in heap + (HEAP_HEAD + used heap.frame.bytes.items)

-- where the last part has the heap page of a number, it has its base
abbrev pub IsKnown : List Part → ℕ → ℕ → Type 0
IsKnown parts number base = 0 < length parts → (last_part parts).heap ≡ number → (last_part parts).base ≡ base
