pub mod Pairs
pub mod Keys
pub mod Order
