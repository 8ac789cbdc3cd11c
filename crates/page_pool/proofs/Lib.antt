pub mod Faults
pub mod Homes
pub mod Loaded
pub mod Looks
pub mod Numbers
