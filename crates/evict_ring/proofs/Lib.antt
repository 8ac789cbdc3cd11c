pub mod Callers
pub mod Keeps
pub mod Opening
pub mod Seated
pub mod Sums
