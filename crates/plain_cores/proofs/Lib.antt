pub mod Cleaning
pub mod CoreAnswers
pub mod Tested
