pub mod Running
pub mod Causes
pub mod Faults
