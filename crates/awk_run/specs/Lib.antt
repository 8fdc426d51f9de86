pub mod ScriptRuns
pub mod Examples
pub mod Seen
pub mod Counted
pub mod Executions
