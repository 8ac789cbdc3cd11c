-- Sets of rows that are being written.
use Rattle.std.specs.Prelude.{◌≡◌, ℕ, ◌+◌, ◌-◌, ◌*◌, ◌<◌, ◌≤◌, nat_lt, if◌then◌else◌, List, [], ◌∷◌, ◌++◌, length, map, get_or, slice_range, Option, Some, None, IfSome, ⊤}
use Rattle.row_image.specs.declared.limits.TheConstants.{HEAP_HEAD}
use Rattle.row_image.specs.declared.layout.CellKind.{CellKind}
use Rattle.row_image.specs.declared.image.Part.{Part}
use Rattle.row_image.specs.declared.image.ImageKind.{ImageKind}
use Rattle.row_image.specs.declared.image.ImageKind.TheVariants.{Rows, Heap}
use Rattle.row_image.specs.Bytes.{IsPage}
use Rattle.row_image.specs.Flat.{flat}
use Rattle.row_image.specs.Image.{parts_of, no_heap, no_part, row_count}
use Rattle.row_image.specs.Layout.{rows_that_fit}
use Rattle.row_image.specs.Rules.{IsAccepted, text_limit}
use Rattle.row_image.specs.Texts.{ValueRow, text_rows}
use Rattle.string_heap.specs.Heaps.{used}
use Rattle.number_bags.specs.Bags.{one_of}
use Rattle.page_body.specs.View.{PoolTerms, PoolView}
use Rattle.page_body.specs.Shows.{most_frames}
use Rattle.page_body.specs.PageLists.{ids_of, Differ, AllLive}
use Rattle.page_body.specs.declared.open.OpenPage.{OpenPage}
use Rattle.rebase_pins.specs.Rows.{page_rows}
use Rattle.row_sets.specs.declared.limits.TheConstants.{MOST_ROWS, MOST_LONG}
use Rattle.row_sets.specs.Packed.{Packs}
use Rattle.row_sets.specs.Holds.{Holding, IsOwned, Unpinned}
use Rattle.row_sets.specs.Cells.{AllFit, long_total}
use Rattle.row_sets.specs.SetRows.{SetRow, row_as}
use Rattle.row_sets.specs.Sets.{with_heap, pages_in, lists_in, joined, AllSetPages, AreColumns}
use Rattle.row_sets.specs.declared.writer.Writer.{Writer}

-- the pages that are sealed: the heap pages of the open row page, and those of the row pages that are done
abbrev pub written_pages : {Page : Type 0} → Writer Page → List Page
written_pages w = with_heap w.heap0 (with_heap w.heap1 (with_heap w.heap2 (with_heap w.heap3 (pages_in w.pages.items))))

abbrev pub writer_ids : {Page Pin : Type 0} → PoolTerms Page Pin → Writer Page → ℕ → ℕ
writer_ids t w = ids_of t (written_pages w)

abbrev pub open_in : Option OpenPage → ℕ → ℕ
open_in None y = 0
open_in (Some page) y = one_of page.frame.number y

abbrev pub count_open : Option OpenPage → ℕ
count_open None = 0
count_open (Some page) = 1

-- what a writer has of a pool
abbrev pub writer_holding : {Page Pin : Type 0} → PoolTerms Page Pin → Writer Page → Holding
writer_holding t w = record {
  pages = writer_ids t w;
  pins = λ y. 0;
  opens = λ y. open_in w.open_rows y + open_in w.open_heap y;
  held = count_open w.open_rows + count_open w.open_heap;
}

-- the pool has two frames for the writer, with those that it holds
abbrev pub HasFrames : {Page Pin : Type 0} → PoolTerms Page Pin → PoolView Page Pin → Writer Page → Type 0
HasFrames t a w = a.held + 2 ≤ a.grant + (writer_holding t w).held

-- the bytes of the open heap page, where it has a text
abbrev pub bytes_of : Option OpenPage → List ℕ
bytes_of None = []
bytes_of (Some page) = if nat_lt 0 (used page.frame.bytes.items) then page.frame.bytes.items else []

abbrev pub content_else : {Page Pin : Type 0} → PoolTerms Page Pin → Option Page → List ℕ → List ℕ
content_else t None other = other
content_else t (Some page) other = t.content page

-- the bytes of the open heap page, where it is that of a part
abbrev pub if_at : ℕ → ℕ → List ℕ → List ℕ
if_at k count bytes = if nat_lt k count then [] else (if nat_lt count k then [] else bytes)

-- what the heap pages of the open row page say, part by part: those that are sealed, and then the open one
abbrev pub heaps_now : {Page Pin : Type 0} → PoolTerms Page Pin → Writer Page → List (List ℕ)
heaps_now t w =
    content_else t w.heap0 (if_at 0 w.sealed_heaps (bytes_of w.open_heap))
    ∷ content_else t w.heap1 (if_at 1 w.sealed_heaps (bytes_of w.open_heap))
    ∷ content_else t w.heap2 (if_at 2 w.sealed_heaps (bytes_of w.open_heap))
    ∷ content_else t w.heap3 (if_at 3 w.sealed_heaps (bytes_of w.open_heap))
    ∷ []

abbrev pub open_list : List CellKind → List (List ℕ) → Option OpenPage → List ValueRow
open_list kinds heaps None = []
open_list kinds heaps (Some page) = page_rows kinds (flat (Rows kinds) page.frame.bytes.items) heaps

-- the rows that were written, in order, and the same in values of SQL
abbrev pub written_cells : {Page Pin : Type 0} → PoolTerms Page Pin → Writer Page → List ValueRow
written_cells t w = joined (lists_in t w.layout w.pages.items) ++ open_list w.layout (heaps_now t w) w.open_rows

abbrev pub written_rows : {Page Pin : Type 0} → PoolTerms Page Pin → Writer Page → List SetRow
written_rows t w = map (row_as w.kinds) (written_cells t w)

-- the number of a heap page of the open row page: its place among all heap pages of the writer
abbrev pub number_of : ℕ → ℕ → ℕ
number_of first k = if nat_lt (first + k) no_heap then first + k else first + k - no_heap

-- the texts that a heap page has so far stand in these bytes
abbrev pub Reaches : List ℕ → List ℕ → Type 0
Reaches bytes later = (from to : ℕ) → HEAP_HEAD ≤ from → to ≤ HEAP_HEAD + used bytes → slice_range later from to ≡ slice_range bytes from to

-- each heap page's number has bytes that reach those there so far
abbrev pub Reached : ℕ → ℕ → List (List ℕ) → (ℕ → List ℕ) → Type 0
Reached count first heaps later = (k : ℕ) → k < count → Reaches (get_or heaps k []) (later (number_of first k))

-- an open page of this kind, as long as a page, in a frame of the pool
pub record IsWhole (kind : ImageKind) (page_bytes : ℕ) (page : OpenPage) : Type 0 where
  pub kind_is : page.kind ≡ kind
  pub long : length page.frame.bytes.items ≡ page_bytes
  pub number : page.frame.number < most_frames
  pub accepted : IsAccepted kind page.frame.bytes.items

-- The parts of a row page, of which so many heap pages have texts, the first of this number: each has its part, in order,
-- and there is no other part but one for the rows before the first long text.
pub record AreParts (count first : ℕ) (parts : List Part) : Type 0 where
  pub heaps : (k : ℕ) → k < count → (k < length parts) × ((get_or parts k no_part).heap ≡ number_of first k)
  pub few : 1 ≤ count → length parts ≡ count
  pub one : count ≡ 0 → length parts ≤ 1
  pub bare : count ≡ 0 → 0 < length parts → (get_or parts 0 no_part).heap ≡ no_heap

-- The open row page, of which so many heap pages have texts, the first of this number, that say this so far. Its rows stay
-- the same however the heap pages go on.
pub record IsOpenRows (kinds : List CellKind) (page_bytes count first : ℕ) (heaps : List (List ℕ)) (page : OpenPage) : Type 0 where
  pub whole : IsWhole (Rows kinds) page_bytes page
  pub parts : AreParts count first (parts_of page.frame.bytes.items)
  pub stable : (later : ℕ → List ℕ) → Reached count first heaps later → text_rows kinds (flat (Rows kinds) page.frame.bytes.items) later ≡ page_rows kinds (flat (Rows kinds) page.frame.bytes.items) heaps
  pub fit : AllFit kinds (text_limit page_bytes) (page_rows kinds (flat (Rows kinds) page.frame.bytes.items) heaps)

-- 1 where the open heap page has a text
abbrev pub count_used : Option OpenPage → ℕ
count_used None = 0
count_used (Some page) = if nat_lt 0 (used page.frame.bytes.items) then 1 else 0

-- how many heap pages of the open row page have texts
abbrev pub used_heaps : {Page : Type 0} → Writer Page → ℕ
used_heaps w = w.sealed_heaps + count_used w.open_heap

-- where the open heap page has a text, its part has its base
abbrev pub IsBase : ℕ → ℕ → Option OpenPage → Option OpenPage → Type 0
IsBase page_bytes place None heap = ⊤
IsBase page_bytes place (Some rows) None = ⊤
IsBase page_bytes place (Some rows) (Some heap) = 0 < used heap.frame.bytes.items → (get_or (parts_of rows.frame.bytes.items) place no_part).base ≡ heap.frame.number * page_bytes

-- heap0 to heap3 are filled in order
abbrev pub IsThere : {X : Type 0} → Option X → ℕ → ℕ → Type 0
IsThere None k count = count ≤ k
IsThere (Some x) k count = k < count

-- without an open row page there are no heap pages that wait for it
abbrev pub NoHeaps : Option OpenPage → ℕ → Option OpenPage → Type 0
NoHeaps None count heap = (count ≡ 0) × (heap ≡ None)
NoHeaps (Some page) count heap = ⊤

-- What is known of a writer whatever is called on others, and something more: it speaks of no state.
pub record WritingWith {Page Pin : Type 0} (More : Type 0) (t : PoolTerms Page Pin) (w : Writer Page) : Type 0 where
  pub packs : More
  pub columns : AreColumns w.kinds w.layout
  pub is_page : IsPage w.page_bytes
  pub pages : AllSetPages t w.layout w.page_bytes w.pages.items
  pub open_rows : IfSome w.open_rows (IsOpenRows w.layout w.page_bytes (used_heaps w) w.first_heap (heaps_now t w))
  pub open_heap : IfSome w.open_heap (IsWhole Heap w.page_bytes)
  pub base : IsBase w.page_bytes w.sealed_heaps w.open_rows w.open_heap
  pub filled : IsThere w.heap0 0 w.sealed_heaps × IsThere w.heap1 1 w.sealed_heaps × IsThere w.heap2 2 w.sealed_heaps × IsThere w.heap3 3 w.sealed_heaps
  pub heap_kinds : IfSome w.heap0 (λ p. t.kind p ≡ Heap) × IfSome w.heap1 (λ p. t.kind p ≡ Heap) × IfSome w.heap2 (λ p. t.kind p ≡ Heap) × IfSome w.heap3 (λ p. t.kind p ≡ Heap)
  pub most : w.sealed_heaps + count_open w.open_heap ≤ 4
  pub low : w.first_heap < no_heap
  pub waits : NoHeaps w.open_rows w.sealed_heaps w.open_heap
  pub differ : Differ t (writer_ids t w)
  pub counted : w.rows ≡ length (written_cells t w)
  pub long : w.long_bytes ≡ long_total (written_cells t w)
  pub few_rows : w.rows ≤ MOST_ROWS
  pub few_long : w.long_bytes ≤ MOST_LONG

-- its pages are sound, however they are filled
abbrev pub Written : {Page Pin : Type 0} → PoolTerms Page Pin → Writer Page → Type 0
Written t w = WritingWith ⊤ t w

-- and it packs its pages
abbrev pub Writing : {Page Pin : Type 0} → PoolTerms Page Pin → Writer Page → Type 0
Writing t w = WritingWith (Packs w) t w

-- what of it depends on the state: its pages are live and unpinned, and its open pages are this worker's
pub record IsWriterHere {Page Pin : Type 0} (t : PoolTerms Page Pin) (a : PoolView Page Pin) (w : Writer Page) : Type 0 where
  pub page_bytes : w.page_bytes ≡ a.page_bytes
  pub live : AllLive a (written_pages w)
  pub owned : IsOwned a (writer_holding t w)
  pub unpinned : Unpinned t a (writer_ids t w)

-- the open heap page has room for so many bytes, or none are to be put
abbrev pub HeapHasRoom : ℕ → ℕ → Option OpenPage → Type 0
HeapHasRoom page_bytes long None = long ≡ 0
HeapHasRoom page_bytes long (Some heap) = (HEAP_HEAD + used heap.frame.bytes.items) + long ≤ page_bytes

-- the open row page has room for a row
abbrev pub RowsHaveRoom : List CellKind → ℕ → Option OpenPage → Type 0
RowsHaveRoom kinds page_bytes None = ⊥
RowsHaveRoom kinds page_bytes (Some page) = row_count page.frame.bytes.items < rows_that_fit kinds page_bytes

-- a row with so many bytes of long texts can be written without the pool
pub record HasRoom {Page : Type 0} (w : Writer Page) (long : ℕ) : Type 0 where
  pub rows : RowsHaveRoom w.layout w.page_bytes w.open_rows
  pub heap : HeapHasRoom w.page_bytes long w.open_heap
  pub few_rows : w.rows < MOST_ROWS
  pub few_long : w.long_bytes + long ≤ MOST_LONG

-- the open heap page has no text, so that any row's long texts fit
abbrev pub IsEmptyHeap : ℕ → Option OpenPage → Type 0
IsEmptyHeap page_bytes None = ⊥
IsEmptyHeap page_bytes (Some heap) = used heap.frame.bytes.items ≡ 0
