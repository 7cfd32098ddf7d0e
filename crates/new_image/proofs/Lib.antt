pub mod Declared
pub mod Images
