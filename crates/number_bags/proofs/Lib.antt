pub mod Bags
pub mod Few
