pub mod Home
pub mod Lending
pub mod Rule
pub mod Seats
pub mod Spun
