pub mod Outputs
pub mod Writers
pub mod Writing
pub mod Size
pub mod Limits
pub mod Examples
pub mod Names
