pub mod First
pub mod Limits
pub mod Lines
pub mod Numbers
pub mod Settings
pub mod Status
pub mod Texts
pub mod Words
