pub mod Stores
pub mod Growing
pub mod Agreeing
pub mod Modules
pub mod Exchanged
