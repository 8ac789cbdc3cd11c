pub mod Parts
pub mod WorkedLemmas
