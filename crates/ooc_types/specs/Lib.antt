pub mod Order
pub mod Strict
pub mod Meets
pub mod Canonical
pub mod Keys
