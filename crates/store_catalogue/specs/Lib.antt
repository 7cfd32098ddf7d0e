pub mod Entries
pub mod Numbers
pub mod ByName
pub mod Apart
