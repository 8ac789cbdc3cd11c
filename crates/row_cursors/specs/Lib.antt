pub mod DayCells
pub mod PinnedRows
pub mod RowCursors
