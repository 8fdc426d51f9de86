pub mod Bytes
pub mod Reading
pub mod Number
pub mod NumberText
pub mod Parts
pub mod Escapes
pub mod Examples
