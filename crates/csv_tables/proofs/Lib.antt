pub mod RowForms
pub mod Adding
pub mod Loaded
