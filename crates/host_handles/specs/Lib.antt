pub mod Tables
pub mod Lends
