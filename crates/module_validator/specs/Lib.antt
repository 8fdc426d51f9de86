pub mod Forms
pub mod Checks
pub mod Faults
