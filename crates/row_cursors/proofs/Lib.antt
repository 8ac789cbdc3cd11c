pub mod KeptValues
pub mod Places
pub mod Held
pub mod Copied
pub mod Appended
pub mod SeenRows
pub mod Counts
