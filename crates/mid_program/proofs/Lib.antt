pub mod Views
pub mod Outcomes
pub mod Seen
pub mod Congruence
pub mod Runs
pub mod Sorted
pub mod Joining
pub mod Lenders
