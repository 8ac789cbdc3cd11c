pub mod ClaimKeeps
pub mod HandKeeps
pub mod Sums
pub mod Taking
