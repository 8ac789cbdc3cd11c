pub mod Arguments
pub mod Grouped
pub mod Keys
pub mod Sums
