pub mod Queue
pub mod Appends
