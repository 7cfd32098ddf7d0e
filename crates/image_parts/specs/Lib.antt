pub mod Whole
pub mod Walk
pub mod Order
