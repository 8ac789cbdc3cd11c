-- What becomes of the parts of a page when a row is written.
use Rattle.std.specs.Prelude.{◌≡◌, ℕ, ◌+◌, ◌-◌, ◌%◌, ◌^◌, ◌<◌, ◌≤◌, ◌==◌, nat_lt, not, ◌&&◌, ◌||◌, Bool, true, false, if◌then◌else◌, List, [], ◌∷◌, ◌++◌, length, map, get_or, slice_set, Option, Some, None, IfSome}
use Rattle.std.specs.List.{list_any}
use Rattle.row_image.specs.declared.limits.TheConstants.{HEAP_HEAD}
use Rattle.row_image.specs.declared.cell.CellIn.{CellIn}
use Rattle.row_image.specs.declared.cell.CellIn.TheVariants.{Null}
use Rattle.row_image.specs.declared.image.Part.{Part}
use Rattle.row_image.specs.Cells.{StoredCell, NullCell, NumberCell, ShortCell, LongCell, given_cell}
use Rattle.row_image.specs.Image.{StoredRow, no_heap, no_part}

-- a row as it is handed in
abbrev pub given_row : List CellIn → ℕ → StoredRow
given_row cells hash = record { hash = hash; cells = map given_cell cells }

abbrev pub is_long : StoredCell → Bool
is_long NullCell = false
is_long (NumberCell z) = false
is_long (ShortCell text) = false
is_long (LongCell prefix size address) = true

-- the number and the base of the heap page that a row needs: none where no text is long
unfoldable pub wanted : List CellIn → Option (ℕ × ℕ) → Option (ℕ × ℕ)
wanted cells heap = if list_any (λ cell. is_long (given_cell cell)) cells then heap else None

-- a part without a heap page takes each row, and another the rows with no long text and those of its own heap page
abbrev pub takes_row : Part → Option (ℕ × ℕ) → Bool
takes_row part None = true
takes_row part (Some heap) = part.heap == no_heap || part.heap == heap.0

-- a part with one row more
abbrev pub grown : Part → Option (ℕ × ℕ) → Part
grown part None = record { first = part.first; rows = part.rows + 1; heap = part.heap; base = part.base }
grown part (Some heap) = record { first = part.first; rows = part.rows + 1; heap = heap.0; base = heap.1 }

-- a part that begins with a row
abbrev pub begun : ℕ → Option (ℕ × ℕ) → Part
begun row None = record { first = row; rows = 1; heap = no_heap; base = 0 }
begun row (Some heap) = record { first = row; rows = 1; heap = heap.0; base = heap.1 }

abbrev pub last_part : List Part → Part
last_part parts = get_or parts (length parts - 1) no_part

-- whether the current part, the last one, takes the row
unfoldable pub joins : List Part → Option (ℕ × ℕ) → Bool
joins parts want = nat_lt 0 (length parts) && takes_row (last_part parts) want

-- the parts with one row more, which joins the last part or begins another
unfoldable pub parts_with : List Part → ℕ → Option (ℕ × ℕ) → List Part
parts_with parts row want =
    if joins parts want
    then slice_set parts (length parts - 1) (grown (last_part parts) want)
    else parts ++ begun row want ∷ []

-- whether the row would begin a fifth part
unfoldable pub begins_fifth : List Part → Option (ℕ × ℕ) → Bool
begins_fifth parts want = not (joins parts want) && length parts == 4

-- a heap page's number and base, known to the last part where it is that part's
pub record IsHeap (page : ℕ) (parts : List Part) (heap : ℕ × ℕ) : Type 0 where
  pub number : heap.0 < no_heap
  pub aligned : heap.1 % page ≡ 0
  pub low : heap.1 < 2 ^ 48
  pub known : 0 < length parts → (last_part parts).heap ≡ heap.0 → (last_part parts).base ≡ heap.1

-- a long text lies on the heap page
abbrev pub LiesOn : ℕ → Option (ℕ × ℕ) → StoredCell → Type 0
LiesOn page heap NullCell = Unit {0}
LiesOn page heap (NumberCell z) = Unit {0}
LiesOn page heap (ShortCell text) = Unit {0}
LiesOn page None (LongCell prefix size address) = ⊥
LiesOn page (Some heap) (LongCell prefix size address) = (heap.1 + HEAP_HEAD ≤ address) × (address + size ≤ heap.1 + page)

-- the heap page that is handed in has the row's long texts
pub record HoldsTexts (page : ℕ) (parts : List Part) (cells : List CellIn) (heap : Option (ℕ × ℕ)) : Type 0 where
  pub is : IfSome heap (IsHeap page parts)
  pub each : (column : ℕ) → column < length cells → LiesOn page heap (given_cell (get_or cells column Null))
