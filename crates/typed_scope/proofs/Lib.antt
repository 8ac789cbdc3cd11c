pub mod PartLemmas
pub mod LeafLemmas
pub mod ChainLemmas
pub mod ListLemmas
