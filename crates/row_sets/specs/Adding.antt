-- A writer with a row more.
use Rattle.std.specs.Prelude.{◌≡◌, ℕ, ◌+◌, ◌≤◌}
use Rattle.page_body.specs.View.{PoolTerms}
use Rattle.row_sets.specs.Writers.{writer_holding, written_pages}
use Rattle.row_sets.specs.declared.writer.Writer.{Writer}

-- the same columns, the same sealed pages, and the open pages in the same frames
pub record KeepsPlace {Page Pin : Type 0} (t : PoolTerms Page Pin) (old new : Writer Page) : Type 0 where
  pub kinds : new.kinds ≡ old.kinds
  pub layout : new.layout ≡ old.layout
  pub page_bytes : new.page_bytes ≡ old.page_bytes
  pub pages : written_pages new ≡ written_pages old
  pub holding : writer_holding t new ≡ writer_holding t old

-- At most so many bytes of long texts more were asked for. Who adds each row, and nothing else, has asked for as many as were
-- added.
abbrev pub Asks : {Page : Type 0} → Writer Page → ℕ → Writer Page → Type 0
Asks old long new = new.asked_bytes ≤ old.asked_bytes + long
