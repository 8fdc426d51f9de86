pub mod Readers
pub mod Reading
pub mod View
pub mod Readings
