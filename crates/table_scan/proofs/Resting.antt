-- Sets while others are read.
use Rattle.std.proofs.Common.{ℕ, ◌≤◌, List, [], ◌∷◌, sym, ◌∙◌, Bool}
use Rattle.page_body.specs.View.{PoolTerms, PoolView}
use Rattle.page_body.specs.Keeps.{Kept}
use Rattle.page_body.specs.PageLists.{AllLive}
use Rattle.page_body.proofs.Causes.{call_fails}
use Rattle.row_sets.specs.Sets.{IsHere, NoRowPins, set_pages}
use Rattle.row_sets.specs.declared.row_set.RowSet.{RowSet}
use Rattle.table_scan.specs.declared.fault.SelectFault.{SelectFault}
use Rattle.table_scan.specs.declared.fault.SelectFault.TheVariants as fault
use Rattle.page_body.specs.Refusals.{CallFails}
use Rattle.page_body.specs.declared.fault.PoolFault.{PoolFault}
use Rattle.page_body.specs.declared.fault.PoolFault.TheVariants as pool
use Rattle.sql_expr.specs.declared.fault.EvalFault.{EvalFault}
use Rattle.sql_expr.specs.declared.fault.EvalFault.TheVariants as eval
use Rattle.sql_meaning.specs.Found.{Row}
use Rattle.sql_meaning.specs.Judged.{Condition}
use Rattle.table_scan.specs.Outcomes.{HasCause, IsNoted, pool_fault, value_fault}

module _ {Page Pin : Type 0} (t : PoolTerms Page Pin) where
  live-on : (a b : PoolView Page Pin) → Kept a b → (pages : List Page) → AllLive a pages → AllLive b pages
  live-on a b kept [] live = tt
  live-on a b kept (page ∷ pages) live = (kept.lives page live.0, live-on a b kept pages live.1)

  pub here-on : (a b : PoolView Page Pin) (set : RowSet Page) → Kept a b → IsHere a set → IsHere b set
  here-on a b set kept here = record { page_bytes = here.page_bytes ∙ sym kept.page_bytes; live = live-on a b kept (set_pages set) here.live }

  pub alone-on : (a b : PoolView Page Pin) (set : RowSet Page) → Kept a b → NoRowPins t a set → NoRowPins t b set
  alone-on a b set kept alone = λ ends y some. kept.pins y ∙ alone ends y some

pub cause-later : (told : Bool) (first before now last : ℕ) (why : SelectFault) → HasCause told before now why → first ≤ before → now ≤ last → HasCause told first last why
cause-later told first before now last (fault.Value value) cause low high = tt
cause-later told first before now last fault.TooLarge cause low high = tt
cause-later told first before now last (fault.Pool why) cause low high = (cause.0, call_fails told first before now last why cause.1 low high)
cause-later told first before now last fault.OutOfMemory cause low high = tt

-- ---- the faults of one row

pub pool-cause : (told : Bool) (before now : ℕ) (why : PoolFault) → CallFails told before now why → HasCause told before now (pool_fault why)
pool-cause told before now pool.Spill cause = ((λ e. cc), cause)
pool-cause told before now (pool.Damaged damage) cause = ((λ e. cc), cause)
pool-cause told before now pool.OutOfMemory cause = tt

pub value-cause : (told : Bool) (before now : ℕ) (why : EvalFault) → HasCause told before now (value_fault why)
value-cause told before now (eval.Fault value) = tt
value-cause told before now eval.OutOfMemory = tt

pub pool-noted : (conditions : List Condition) (rows : List Row) (why : PoolFault) → IsNoted conditions rows (pool_fault why)
pool-noted conditions rows pool.Spill = tt
pool-noted conditions rows (pool.Damaged damage) = tt
pool-noted conditions rows pool.OutOfMemory = tt
