pub mod Catalog
pub mod Block
pub mod Selecting
pub mod Outcome
pub mod Checking
pub mod Runs
pub mod Ends
pub mod LastLine
