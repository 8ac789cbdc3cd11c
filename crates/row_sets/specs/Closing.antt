-- A writer whose open pages are sealed.
use Rattle.std.specs.Prelude.{◌≡◌, ℕ, ◌+◌, ◌<◌, ◌∷◌, [], ◌++◌, nat_lt, if◌then◌else◌, Option, Some, None}
use Rattle.row_image.specs.Image.{no_heap}
use Rattle.row_sets.specs.Writers.{number_of}
use Rattle.row_sets.specs.declared.row_set.RowSet.{RowSet}
use Rattle.row_sets.specs.declared.writer.Writer.{Writer}

-- no page is open, and none waits for its row page
pub record IsClosed {H : Type 0} (w : Writer H) : Type 0 where
  pub open_rows : w.open_rows ≡ None
  pub open_heap : w.open_heap ≡ None
  pub heap0 : w.heap0 ≡ None
  pub heap1 : w.heap1 ≡ None
  pub heap2 : w.heap2 ≡ None
  pub heap3 : w.heap3 ≡ None

-- the place of the next heap page is free
pub record IsFree {H : Type 0} (w : Writer H) : Type 0 where
  pub at0 : w.sealed_heaps ≡ 0 → w.heap0 ≡ None
  pub at1 : w.sealed_heaps ≡ 1 → w.heap1 ≡ None
  pub at2 : w.sealed_heaps ≡ 2 → w.heap2 ≡ None
  pub at3 : w.sealed_heaps ≡ 3 → w.heap3 ≡ None

-- what stands at one of the places, after a page was put at a place
abbrev pub put_at : {H : Type 0} → ℕ → ℕ → Option H → H → Option H
put_at k place old page = if nat_lt k place then old else (if nat_lt place k then old else Some page)

-- with one more sealed heap page
abbrev pub with_sealed : {H : Type 0} → Writer H → H → Writer H
with_sealed w page = record w {
  heap0 = put_at 0 w.sealed_heaps w.heap0 page;
  heap1 = put_at 1 w.sealed_heaps w.heap1 page;
  heap2 = put_at 2 w.sealed_heaps w.heap2 page;
  heap3 = put_at 3 w.sealed_heaps w.heap3 page;
  sealed_heaps = w.sealed_heaps + 1;
}

-- the row page with its heap pages as one of the pages that are done
pub record IsWithRows {H : Type 0} (page : H) (rows : ℕ) (old new : Writer H) : Type 0 where
  pub kinds : new.kinds ≡ old.kinds
  pub layout : new.layout ≡ old.layout
  pub page_bytes : new.page_bytes ≡ old.page_bytes
  pub open_heap : new.open_heap ≡ old.open_heap
  pub rows_are : new.rows ≡ old.rows
  pub long_is : new.long_bytes ≡ old.long_bytes
  pub asked_is : new.asked_bytes ≡ old.asked_bytes
  pub items : new.pages.items ≡ old.pages.items ++ record { page = record { rows = page; heap0 = old.heap0; heap1 = old.heap1; heap2 = old.heap2; heap3 = old.heap3 }; rows = rows } ∷ []
  pub heap0 : new.heap0 ≡ None
  pub heap1 : new.heap1 ≡ None
  pub heap2 : new.heap2 ≡ None
  pub heap3 : new.heap3 ≡ None
  pub sealed_heaps : new.sealed_heaps ≡ 0
  pub first_heap : new.first_heap ≡ number_of old.first_heap old.sealed_heaps
  pub low : new.first_heap < no_heap

abbrev pub closed_set : {H : Type 0} → Writer H → RowSet H
closed_set w = record { kinds = w.kinds; layout = w.layout; page_bytes = w.page_bytes; pages = w.pages; rows = w.rows; long_bytes = w.long_bytes; asked_bytes = w.asked_bytes }

-- the same columns, for pages of the same length
pub record SameColumns {H : Type 0} (old new : Writer H) : Type 0 where
  pub kinds : new.kinds ≡ old.kinds
  pub layout : new.layout ≡ old.layout
  pub page_bytes : new.page_bytes ≡ old.page_bytes
