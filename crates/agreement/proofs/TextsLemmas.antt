pub mod Leftmost
pub mod Places
pub mod Replaced
pub mod Words
pub mod Longest
pub mod Parted
pub mod Fields
pub mod Examples
