pub mod Snoc
pub mod Books
pub mod Kept
