pub mod Faults
pub mod FaultNames
pub mod Operators
pub mod Values
pub mod Comparison
pub mod Texts
pub mod Examples
