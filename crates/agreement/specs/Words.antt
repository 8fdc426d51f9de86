pub mod Naming
pub mod Words
pub mod Examples
