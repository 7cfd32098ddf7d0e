pub mod Multi
pub mod Found
pub mod Kept
pub mod Places
pub mod Agree
pub mod Cost
pub mod Laws
