pub mod Meaning
pub mod Finding
pub mod Stands
pub mod Loading
pub mod Counting
