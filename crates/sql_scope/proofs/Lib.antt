pub mod Finding
pub mod Going
pub mod ConstantList
pub mod Sameness
pub mod DayTexts
pub mod Each
