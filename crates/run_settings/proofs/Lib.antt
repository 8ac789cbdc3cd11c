pub mod Cuts
pub mod Fit
pub mod Front
pub mod Sums
