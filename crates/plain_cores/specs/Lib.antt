pub mod Cores
pub mod Known
pub mod Named
