pub mod Merge
pub mod Rows
pub mod Walk
pub mod Turns
pub mod Shared
pub mod Named
pub mod Results
pub mod Steps
