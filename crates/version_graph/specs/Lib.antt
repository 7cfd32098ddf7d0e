pub mod Ancestors
pub mod Parents
pub mod Marked
pub mod LastCommon
pub mod Laws
