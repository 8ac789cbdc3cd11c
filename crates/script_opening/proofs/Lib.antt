pub mod Counting
pub mod FileLemmas
