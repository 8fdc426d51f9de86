pub mod Passed
pub mod Probes
