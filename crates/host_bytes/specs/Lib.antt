pub mod Parts
pub mod Outcomes
pub mod Growing
pub mod Conversions
pub mod Steps
