pub mod Dropping
pub mod Acting
pub mod SettingsPage
pub mod Told
