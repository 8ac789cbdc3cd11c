-- Types that the columns of a set may have.
use Rattle.std.specs.Prelude.{◌≤◌, List, length}
use Rattle.ooc_types.specs.declared.schema.SqlType.{SqlType}
use Rattle.row_image.specs.declared.limits.TheConstants.{MOST_COLUMNS, MOST_TEXTS}
use Rattle.row_sets.specs.Cells.{text_columns}
use Rattle.row_sets.specs.SetRows.{cell_kinds}

pub record MayBeColumns (kinds : List SqlType) : Type 0 where
  pub some : 1 ≤ length kinds
  pub few : length kinds ≤ MOST_COLUMNS
  pub texts : text_columns (cell_kinds kinds) ≤ MOST_TEXTS
