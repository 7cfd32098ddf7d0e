pub mod Ends
pub mod Keeps
pub mod Statements
pub mod Stored
