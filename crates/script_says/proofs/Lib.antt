pub mod Known
pub mod RunLemmas
pub mod SoFar
pub mod LastLines
pub mod Endings
