pub mod Readers
pub mod State
pub mod Enabled
pub mod Effects
pub mod Run
pub mod Sound
pub mod Laws
