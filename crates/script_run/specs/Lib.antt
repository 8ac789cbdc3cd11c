pub mod Causes
pub mod Ran
