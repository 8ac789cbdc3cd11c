-- How few pages rows take.
use Rattle.std.specs.Prelude.{ℕ, ◌+◌, ◌-◌, ◌*◌, ◌/◌, ◌<◌, ◌≤◌, ◌≡◌, max, nat_lt, nat_le, ◌==◌, if◌then◌else◌, List, [], ◌∷◌, ◌++◌, Option, Some, None, ⊤}
use Rattle.row_image.specs.declared.limits.TheConstants.{ROW_HEAD, HEAP_HEAD}
use Rattle.row_image.specs.Image.{row_count}
use Rattle.row_image.specs.Layout.{rows_that_fit}
use Rattle.string_heap.specs.Heaps.{used}
use Rattle.page_body.specs.declared.open.OpenPage.{OpenPage}
use Rattle.rebase_pins.specs.declared.row_page.RowPage.{RowPage}
use Rattle.row_sets.specs.declared.limits.TheConstants.{MOST_LONG}
use Rattle.row_sets.specs.declared.row_set.SetPage.{SetPage}
use Rattle.row_sets.specs.declared.writer.Writer.{Writer}

-- the heap pages that long texts of so many bytes take: two that follow one another have more than a page of them
abbrev pub packed_heaps : ℕ → ℕ → ℕ
packed_heaps long page = if long == 0 then 0 else 2 * long / (page - HEAP_HEAD) + 1

-- How many pages so many rows take at most, of which long texts of so many bytes were asked for: row pages that are full, or
-- have four heap pages, and the last; and the heap pages, one more for each row page.
unfoldable pub packed_pages : ℕ → ℕ → ℕ → ℕ → ℕ
packed_pages rows long width page =
    if rows == 0 then 0 else
    (if long == 0 then rows / ((page - ROW_HEAD) / width) + 1
    else 2 * (rows / ((page - ROW_HEAD) / width) + 1 + packed_heaps long page / 4) + packed_heaps long page)

-- a row page that is done, by its rows and its heap pages
pub record PageFill : Type 0 where
  pub rows : ℕ
  pub heaps : ℕ

abbrev pub count_page : {H : Type 0} → Option H → ℕ
count_page None = 0
count_page (Some page) = 1

abbrev pub heaps_of : {H : Type 0} → RowPage H → ℕ
heaps_of page = count_page page.heap0 + (count_page page.heap1 + (count_page page.heap2 + count_page page.heap3))

abbrev pub fills_in : {H : Type 0} → List (SetPage H) → List PageFill
fills_in [] = []
fills_in (p ∷ ps) = record { rows = p.rows; heaps = heaps_of p.page } ∷ fills_in ps

-- the heap pages of the row pages that are done
abbrev pub heaps_in : List PageFill → ℕ
heaps_in [] = 0
heaps_in (p ∷ ps) = p.heaps + heaps_in ps

-- 1 where there are some
abbrev pub some_of : ℕ → ℕ
some_of n = if nat_lt 0 n then 1 else 0

-- whether a row page was ended since it was full, and its last heap page with it
abbrev pub ends_of : ℕ → PageFill → ℕ
ends_of fit p = if nat_le fit p.rows then some_of p.heaps else 0

abbrev pub ends_in : ℕ → List PageFill → ℕ
ends_in fit [] = 0
ends_in fit (p ∷ ps) = ends_of fit p + ends_in fit ps

-- each row page was ended since it was full, or since it had four heap pages
abbrev pub AllSpent : ℕ → List PageFill → Type 0
AllSpent fit [] = ⊤
AllSpent fit (p ∷ ps) = (p.rows < fit → 4 ≤ p.heaps) × AllSpent fit ps

-- How full a writer's pages are: how many rows fit a row page, and how many bytes of texts a heap page; the row pages that
-- are done; the rows, the sealed heap pages, and the bytes on the open heap page, of the open row page; the bytes of the
-- long texts that were written, and of those that were asked for.
pub record Fill : Type 0 where
  pub fit : ℕ
  pub room : ℕ
  pub done : List PageFill
  pub rows : ℕ
  pub sealed : ℕ
  pub used : ℕ
  pub long : ℕ
  pub asked : ℕ

abbrev pub rows_in : Option OpenPage → ℕ
rows_in None = 0
rows_in (Some page) = row_count page.frame.bytes.items

abbrev pub used_in : Option OpenPage → ℕ
used_in None = 0
used_in (Some page) = used page.frame.bytes.items

abbrev pub fill_of : {H : Type 0} → Writer H → Fill
fill_of w = record {
  fit = rows_that_fit w.layout w.page_bytes;
  room = w.page_bytes - HEAP_HEAD;
  done = fills_in w.pages.items;
  rows = rows_in w.open_rows;
  sealed = w.sealed_heaps;
  used = used_in w.open_heap;
  long = w.long_bytes;
  asked = w.asked_bytes;
}

-- the heap pages of the open row page that have a text
abbrev pub heaps_here : Fill → ℕ
heaps_here f = f.sealed + some_of f.used

-- A writer packs its pages. Each heap page has a byte, and each that was sealed for want of room has, with what it was sealed
-- for, more than a page. None else is sealed but the last of a row page that is full.
pub record IsPacked (f : Fill) : Type 0 where
  pub spent : AllSpent f.fit f.done
  pub added : f.long ≤ f.asked
  pub few : f.asked ≤ MOST_LONG
  pub texts : heaps_in f.done + heaps_here f ≤ f.long
  pub paid : f.room * (heaps_in f.done + heaps_here f) ≤ f.long + f.asked + f.room * (ends_in f.fit f.done + some_of (heaps_here f))
  pub ready : f.rows < f.fit → f.room * (heaps_in f.done + f.sealed) + f.used ≤ f.long + f.asked + f.room * ends_in f.fit f.done

-- what a writer's pages are, as they are filled
pub record Packs {H : Type 0} (w : Writer H) : Type 0 where
  pub packed : IsPacked (fill_of w)

-- the open heap page sealed, where it has a text
abbrev pub sealed_fill : Fill → Fill
sealed_fill f = record f { sealed = f.sealed + some_of f.used; used = 0 }

-- the open row page done, where it has a row
abbrev pub closed_done : List PageFill → ℕ → ℕ → List PageFill
closed_done done rows heaps = if nat_lt 0 rows then done ++ record { rows = rows; heaps = heaps } ∷ [] else done

abbrev pub closed_fill : Fill → Fill
closed_fill f = record f { done = closed_done f.done f.rows f.sealed; rows = 0; sealed = 0 }

-- after a closing that was refused the pages are packed, if they were, and are with the open heap page sealed
abbrev pub IsLeft : Fill → Fill → Type 0
IsLeft old new = IsPacked old → IsPacked (sealed_fill old) → IsPacked new

-- a row more, with long texts of so many bytes
pub record IsAddedTo (old : Fill) (more : ℕ) (new : Fill) : Type 0 where
  pub fit : new.fit ≡ old.fit
  pub room : new.room ≡ old.room
  pub done : new.done ≡ old.done
  pub rows : old.rows ≤ new.rows
  pub sealed : new.sealed ≡ old.sealed
  pub used : new.used ≡ old.used + more
  pub long : new.long ≡ old.long + more
  pub asked : new.asked ≡ max old.asked new.long
