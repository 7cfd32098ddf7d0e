pub mod Imaged
pub mod Images
pub mod Parts
pub mod Read
pub mod Rules
pub mod Stores
