pub mod Sites
pub mod Passes
pub mod Tallies
pub mod Lines
pub mod Reading
pub mod LineExamples
