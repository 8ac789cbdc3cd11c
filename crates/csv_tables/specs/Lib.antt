pub mod Faults
pub mod Stored
pub mod Adds
pub mod Loading
