pub mod Ranges
pub mod Days
pub mod Splits
pub mod Columns
pub mod Given
pub mod Told
pub mod RowsOf
