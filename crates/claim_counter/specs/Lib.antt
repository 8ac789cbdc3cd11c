pub mod ClaimRule
pub mod Drawers
pub mod HandRule
pub mod Once
pub mod Players
