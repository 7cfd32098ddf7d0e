pub mod Columns
pub mod Misfits
pub mod Early
pub mod Known
pub mod Needs
