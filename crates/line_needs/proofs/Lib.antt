pub mod MisfitLemmas
pub mod SetLemmas
pub mod Knowing
