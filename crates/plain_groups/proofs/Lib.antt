pub mod Folding
pub mod Keying
