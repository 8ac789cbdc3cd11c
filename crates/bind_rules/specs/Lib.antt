pub mod Bindings
pub mod From
pub mod Cores
pub mod Expressions
pub mod Selects
pub mod Bound
