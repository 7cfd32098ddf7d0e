pub mod Schemas
pub mod Image
