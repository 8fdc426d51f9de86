pub mod Arithmetic
pub mod Bits
pub mod Memory
pub mod Examples
