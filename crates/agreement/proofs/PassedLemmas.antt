pub mod Probed
pub mod Passing
