pub mod Told
pub mod Causing
pub mod Opening
pub mod Ran
