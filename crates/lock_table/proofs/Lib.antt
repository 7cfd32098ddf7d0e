pub mod Least
pub mod Added
pub mod Kept
pub mod Rooms
pub mod Marked
pub mod Holding
