pub mod Printed
pub mod Kept
pub mod Numeric
pub mod Exact
pub mod Numeral
pub mod Digits
pub mod Read
pub mod Ends
