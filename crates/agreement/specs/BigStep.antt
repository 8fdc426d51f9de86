pub mod Operations
pub mod Rules
pub mod Items
pub mod Runs
