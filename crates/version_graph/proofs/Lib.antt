pub mod Reaching
pub mod OneSide
pub mod Visits
pub mod Passes
