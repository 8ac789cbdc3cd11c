pub mod Counts
pub mod Held
pub mod Opens
pub mod Lanes
pub mod Calls
pub mod MemForms
pub mod MemFiles
