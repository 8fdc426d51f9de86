pub mod WorldState
pub mod About
pub mod Calls
pub mod Traces
pub mod TraceParts
pub mod Memory
pub mod Faulty
pub mod Examples
