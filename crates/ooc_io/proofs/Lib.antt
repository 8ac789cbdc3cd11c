pub mod Found
pub mod Copied
