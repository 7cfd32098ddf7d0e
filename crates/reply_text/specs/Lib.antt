pub mod Piece
pub mod Rows
pub mod Report
pub mod Refusal
pub mod Reply
