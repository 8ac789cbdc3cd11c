pub mod Collecting
pub mod Fitting
pub mod Joining
pub mod OneTable
pub mod Verdicts
pub mod Placing
