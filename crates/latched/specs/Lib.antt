pub mod Latched
pub mod Reasons
