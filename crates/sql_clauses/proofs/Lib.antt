pub mod Lists
pub mod Seeing
pub mod Gathering
pub mod JoinSteps
pub mod MakesLaws
pub mod Regrouping
pub mod Pairing
