pub mod Tagged
pub mod Lends
pub mod KeepsLemmas
pub mod Storing
pub mod OwnLines
pub mod Merges
pub mod Shows
pub mod Telling
