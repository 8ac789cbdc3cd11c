pub mod Division
pub mod Level
