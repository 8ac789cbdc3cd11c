pub mod Aggregates
pub mod Tally
pub mod Bounds
pub mod Cells
pub mod Restored
pub mod Ways
