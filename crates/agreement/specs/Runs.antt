pub mod ToldRuns
pub mod MachineEnds
pub mod Examples
