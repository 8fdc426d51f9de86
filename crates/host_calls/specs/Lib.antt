pub mod Held
pub mod Forms
pub mod Calls
pub mod Pauses
pub mod Runs
pub mod RunLaws
