pub mod Exclusive
pub mod Composed
pub mod Rooms
pub mod Places
