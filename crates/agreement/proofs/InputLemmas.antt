pub mod Kept
pub mod Given
pub mod Walked
pub mod Made
pub mod Records
