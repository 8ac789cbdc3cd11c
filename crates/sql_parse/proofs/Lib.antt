pub mod Deeper
pub mod Going
pub mod Scripts
