mod Turns
mod Runs
mod Quiet
mod Listing
mod Silent
mod Unlisting
mod Equals
pub mod Printing
pub mod Pairs
