pub mod StreamNames
pub mod OsStreams
pub mod Named
pub mod Fences
pub mod Behind
pub mod Limits
pub mod Examples
