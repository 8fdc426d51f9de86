pub mod Ends
pub mod Held
pub mod Places
pub mod Views
pub mod Splits
pub mod Calls
pub mod Examples
