pub mod Wants
pub mod Conflict
pub mod Waiting
pub mod Turns
pub mod Kept
pub mod Laws
pub mod Covers
