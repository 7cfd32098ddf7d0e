pub mod Rows
pub mod Grants
pub mod Laws
pub mod Kept
pub mod Answer
