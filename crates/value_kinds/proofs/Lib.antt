pub mod Applies
mod Views
mod Throughout
mod Visits
mod Boxed
mod Lending
mod Finds
mod Closed
pub mod Sources
mod Sorted
mod Sound
mod Walked
pub mod Folded
pub mod Forms
pub mod Expressions
pub mod Scripts
pub mod NameKinds
pub mod Whole
