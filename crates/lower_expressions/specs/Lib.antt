pub mod CodeAt
pub mod Fits
pub mod Keeping
pub mod Keeps
pub mod Parts
pub mod Sources
pub mod View
