pub mod Back
pub mod Fitting
pub mod Lists
pub mod Spelled
pub mod WideForms
pub mod RowForm
