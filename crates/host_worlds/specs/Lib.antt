pub mod States
pub mod Givens
pub mod Finds
pub mod Keeps
mod Shown
pub mod Counts
pub mod Calls
pub mod Lines
pub mod Lists
pub mod Forms
pub mod OutputCalls
