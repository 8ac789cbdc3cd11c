pub mod Going
pub mod Text
