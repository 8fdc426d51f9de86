mod Constants
pub mod Reduced
pub mod Folds
mod Left
pub mod Sorted
mod Views
