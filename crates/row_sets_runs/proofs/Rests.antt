-- Sets while calls work on others.
use Rattle.std.proofs.Common.{◌≡◌, ℕ, ◌+◌, ◌≤◌, List, [], ◌∷◌, Option, Some, None, sym, ◌∙◌, arith}
use Rattle.page_body.specs.View.{PoolTerms, PoolView}
use Rattle.page_body.specs.Keeps.{Kept}
use Rattle.page_body.specs.PageLists.{ids_of}
use Rattle.row_sets.specs.Holds.{nothing, Unpinned}
use Rattle.row_sets.specs.Changes.{Changes}
use Rattle.row_sets.specs.Sets.{Formed, IsHere, NoRowPins, set_ids, with_heap, pages_in, row_pages_in}
use Rattle.row_sets.specs.declared.row_set.SetPage.{SetPage}
use Rattle.row_sets.specs.declared.row_set.RowSet.{RowSet}
use Rattle.row_sets.proofs.Changed.{changes_kept, unpinned_on}
use Rattle.row_sets.proofs.Stays.{set_stays, no_row_pins_stay, nothing_has_no_pins}

module _ {Page Pin : Type 0} (t : PoolTerms Page Pin) where
  heap_more : (o : Option Page) (ps : List Page) (y : ℕ) → ids_of t ps y ≤ ids_of t (with_heap o ps) y
  heap_more None ps y = omega arith
  heap_more (Some p) ps y = omega arith

  rows_among : (ps : List (SetPage Page)) (y : ℕ) → ids_of t (row_pages_in ps) y ≤ ids_of t (pages_in ps) y
  rows_among [] y = omega arith
  rows_among (p ∷ ps) y =
      let h = p.page in
      let i = rows_among ps y in
      let d = heap_more h.heap3 (pages_in ps) y in
      let c = heap_more h.heap2 (with_heap h.heap3 (pages_in ps)) y in
      let b = heap_more h.heap1 (with_heap h.heap2 (with_heap h.heap3 (pages_in ps))) y in
      let a = heap_more h.heap0 (with_heap h.heap1 (with_heap h.heap2 (with_heap h.heap3 (pages_in ps)))) y in
      omega (arith, i, a, b, c, d)

  -- where no page is pinned, no row page is
  pub alone : (set : RowSet Page) (a : PoolView Page Pin) → Unpinned t a (set_ids t set) → NoRowPins t a set
  alone set a unpinned = λ ends y some. let more = rows_among set.pages.items y in unpinned ends y (omega (arith, some, more))

  -- over calls that take nothing and give nothing
  pub here_on : (set : RowSet Page) (a b : PoolView Page Pin) → Changes t nothing nothing a b → Formed t set → IsHere a set → IsHere b set
  here_on set a b c formed here = set_stays t set nothing nothing a b c (λ ends y. let m = formed.differ ends y in omega (arith, m)) here

  pub alone_on : (set : RowSet Page) (a b : PoolView Page Pin) → Changes t nothing nothing a b → NoRowPins t a set → NoRowPins t b set
  alone_on set a b c none = no_row_pins_stay t set nothing nothing a b c nothing_has_no_pins nothing_has_no_pins none

  pub unpinned_over : (set : RowSet Page) (a b : PoolView Page Pin) → Changes t nothing nothing a b → Unpinned t a (set_ids t set) → Unpinned t b (set_ids t set)
  unpinned_over set a b c none = unpinned_on t (set_ids t set) nothing nothing a b c (λ y. omega arith) (λ y. omega arith) none

  pub as_changes : (a b : PoolView Page Pin) → Kept a b → Changes t nothing nothing a b
  as_changes a b kept = changes_kept t nothing a b kept
