pub mod Desks
pub mod Source
pub mod Stage
pub mod Work
