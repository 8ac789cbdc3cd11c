pub mod PartMoves
pub mod Places
pub mod SlotSteps
pub mod Kept
pub mod Causes
pub mod Takes
pub mod PageLists
pub mod Tickets
