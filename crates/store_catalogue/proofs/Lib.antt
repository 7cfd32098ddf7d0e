pub mod FitLemmas
pub mod NameLemmas
pub mod BranchLemmas
