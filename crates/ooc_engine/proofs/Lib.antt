pub mod SettingsFrames
pub mod Told
pub mod Stopped
pub mod FirstLane
pub mod Statements
mod Paying
