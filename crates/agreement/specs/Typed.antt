pub mod Finds
pub mod Examples
