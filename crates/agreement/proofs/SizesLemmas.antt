pub mod Fits
pub mod Small
pub mod Sources
pub mod Emitted
pub mod Stepped
pub mod Sorted
pub mod Whole
