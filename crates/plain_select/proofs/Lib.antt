pub mod CoreFitting
pub mod Walked
