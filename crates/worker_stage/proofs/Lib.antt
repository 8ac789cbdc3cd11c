pub mod Drawn
pub mod Items
pub mod Ready
pub mod Rows
pub mod Survives
pub mod Whole
