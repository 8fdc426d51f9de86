pub mod Quiet
pub mod Sums
pub mod Statements
pub mod Laned
pub mod Examples
pub mod Spots
pub mod SpotExamples
