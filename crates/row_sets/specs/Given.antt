-- What calls on writers give.
use Rattle.std.specs.Prelude.{◌≡◌, ℕ, List, [], Option, Some, None, Result, Ok, Err}
use Rattle.ooc_types.specs.declared.schema.SqlType.{SqlType}
use Rattle.page_body.specs.View.{PoolTerms}
use Rattle.page_body.specs.declared.fault.PoolFault.{PoolFault}
use Rattle.row_sets.specs.Holds.{Holding, nothing, an_open, a_page}
use Rattle.page_body.specs.declared.open.OpenPage.{OpenPage}
use Rattle.row_sets.specs.SetRows.{cell_kinds}
use Rattle.row_sets.specs.Sets.{set_holding}
use Rattle.row_sets.specs.declared.row_set.RowSet.{RowSet}
use Rattle.row_sets.specs.declared.writer.Writer.{Writer}

-- a writer of no rows
pub record IsNewWriter {Page : Type 0} (kinds : List SqlType) (page_bytes : ℕ) (w : Writer Page) : Type 0 where
  pub kinds_are : w.kinds ≡ kinds
  pub layout_is : w.layout ≡ cell_kinds kinds
  pub page : w.page_bytes ≡ page_bytes
  pub pages : w.pages.items ≡ []
  pub open_rows : w.open_rows ≡ None
  pub open_heap : w.open_heap ≡ None
  pub heap0 : w.heap0 ≡ None
  pub heap1 : w.heap1 ≡ None
  pub heap2 : w.heap2 ≡ None
  pub heap3 : w.heap3 ≡ None
  pub sealed_heaps : w.sealed_heaps ≡ 0
  pub first_heap : w.first_heap ≡ 0
  pub rows : w.rows ≡ 0
  pub long : w.long_bytes ≡ 0
  pub asked : w.asked_bytes ≡ 0

-- what a call that gives a set, or is refused, gives
abbrev pub set_given : {Page Pin : Type 0} → PoolTerms Page Pin → Result (RowSet Page) PoolFault → Holding
set_given t (Err fault) = nothing
set_given t (Ok set) = set_holding t set

-- an open page that may be there, and a page that may be there
abbrev pub open_holding : Option OpenPage → Holding
open_holding None = nothing
open_holding (Some page) = an_open page.frame.number

abbrev pub page_holding : {Page Pin : Type 0} → PoolTerms Page Pin → Option Page → Holding
page_holding t None = nothing
page_holding t (Some page) = a_page (t.id page)
