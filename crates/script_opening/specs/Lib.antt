pub mod Limits
pub mod Trees
pub mod Reading
pub mod Opened
