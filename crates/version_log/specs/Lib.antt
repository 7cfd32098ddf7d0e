pub mod Log
pub mod Graph
