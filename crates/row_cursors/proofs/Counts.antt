-- How many rows a page under pins has.
use Rattle.std.proofs.Common.{◌≡◌, ℕ, zero, suc, Bool, List, [], ◌∷◌, get_or, Result, Ok, Err, ap, ◌∙◌}
use Rattle.std.specs.Prelude.{IsTrue, IfOk, IfErr, IsSomeAnd, slice_get}
use Rattle.row_image.specs.declared.layout.CellKind.{CellKind}
use Rattle.page_body.specs.View.{PoolTerms}
use Rattle.page_body.specs.Refusals.{CallFails}
use Rattle.page_body.specs.declared.fault.PoolFault.{PoolFault}
use Rattle.page_body.specs.declared.fault.PoolFault.TheVariants.{Spill, Damaged, OutOfMemory}
use Rattle.rebase_pins.specs.declared.row_page.RowPage.{RowPage}
use Rattle.rebase_pins.specs.declared.row_page.RowPins.{RowPins}
use Rattle.rebase_pins.specs.RowPages.{under_pins}
use Rattle.rebase_pins.specs.Rows.{rows_of_page}
use Rattle.row_sets.specs.Sets.{lists_in, set_lists}
use Rattle.row_sets.specs.Cursors.{IsPageOf, rows_under}
use Rattle.row_sets.specs.declared.row_set.SetPage.{SetPage}
use Rattle.row_sets.specs.declared.row_set.RowSet.{RowSet}
use Rattle.row_cursors.specs.PinnedRows.{IsMiscounted}

pub miscounted : (told : Bool) (rows found faults : ℕ) {X : Type 0} (r : Result X PoolFault) → IfErr r (IsMiscounted rows found) → (IsTrue told → found ≡ rows) → IfErr r (CallFails told faults faults)
miscounted told rows found faults (Err Spill) h e = absurd h
miscounted told rows found faults (Err (Damaged damage)) h e = λ is. h.1 (e is)
miscounted told rows found faults (Err OutOfMemory) h e = absurd h
miscounted told rows found faults (Ok x) h e = tt

pub both_counts : (r : Result ℕ PoolFault) (rows found a b : ℕ) → IfOk r (λ count. (count ≡ rows) × (count ≡ found)) → rows ≡ a → found ≡ b → IfOk r (λ count. (count ≡ a) × (count ≡ b))
both_counts (Err fault) rows found a b h e f = tt
both_counts (Ok count) rows found a b h e f = (h.0 ∙ e, h.1 ∙ f)

module _ {Page Pin : Type 0} (t : PoolTerms Page Pin) where
  under_at : (kinds : List CellKind) (ps : List (SetPage Page)) (n : ℕ) (page : RowPage Page) → IsSomeAnd (slice_get ps n) (λ p. page ≡ p.page) → rows_of_page t kinds page ≡ get_or (lists_in t kinds ps) n []
  under_at kinds [] n page is = absurd is
  under_at kinds (p ∷ ps) zero page is = ap (rows_of_page t kinds) is
  under_at kinds (p ∷ ps) (suc n) page is = under_at kinds ps n page is

  -- the rows under pins on a page of a set are its list
  pub under_list : (set : RowSet Page) (n : ℕ) (pins : RowPins Pin) → IsPageOf t set n pins → rows_under t set pins ≡ get_or (set_lists t set) n []
  under_list set n pins is = under_at set.layout set.pages.items n (under_pins t pins) is.under
