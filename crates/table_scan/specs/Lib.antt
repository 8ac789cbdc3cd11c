pub mod Scan
pub mod Typed
pub mod Sink
pub mod Outcomes
pub mod TableRows
pub mod Steps
pub mod Sets
pub mod Items
