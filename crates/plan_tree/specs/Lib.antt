pub mod Columns
pub mod Split
pub mod Order
pub mod FreeFrom
pub mod Given
pub mod Planned
pub mod Means
pub mod Plannable
