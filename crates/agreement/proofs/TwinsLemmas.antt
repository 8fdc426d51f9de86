pub mod Words
pub mod Names
pub mod Escapes
pub mod Arrays
