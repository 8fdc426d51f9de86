pub mod Leftmost
pub mod Substitutions
pub mod Fields
