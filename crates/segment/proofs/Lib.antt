mod BlockLemmas
pub mod KeyLemmas
pub mod PageLemmas
mod GreatestLemmas
mod SlotLemmas
