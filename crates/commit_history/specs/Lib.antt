pub mod Combined
pub mod Sparse
pub mod Runs
