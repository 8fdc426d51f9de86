pub mod Runs
pub mod Means
pub mod Threads
pub mod Leads
pub mod Autos
pub mod Rows
pub mod Crowds
pub mod Ends
