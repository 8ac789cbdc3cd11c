pub mod Arguments
pub mod Real
