pub mod Wrapped
pub mod Divided
pub mod Placed
pub mod Remembered
