pub mod Answers
pub mod Cores
pub mod Froms
pub mod Outcomes
pub mod Places
pub mod Tests
