pub mod RowPages
pub mod Rows
pub mod Parts
pub mod Images
pub mod Sight
pub mod Seen
pub mod Fits
