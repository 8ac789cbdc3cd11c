pub mod Scaled
pub mod Tenth
pub mod ValueOrder
pub mod Ties
pub mod Bytes
pub mod Reduced
pub mod KeyBytes
