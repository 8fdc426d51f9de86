pub mod Digits
pub mod Numbers
pub mod Conversions
pub mod Reading
pub mod Converse
