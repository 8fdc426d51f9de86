pub mod Aligns
pub mod Exact
pub mod Fields
pub mod Functions
pub mod LocalTypes
mod Sought
pub mod LevelParts
pub mod Names
pub mod Steps
