pub mod Short
pub mod Rows
pub mod Kept
pub mod Segments
pub mod Differences
pub mod Seen
pub mod Told
