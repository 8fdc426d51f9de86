pub mod Compiled
pub mod Refusals
pub mod Counts
