pub mod Fits
pub mod Placed
pub mod Examples
pub mod Expressions
pub mod Coded
pub mod Refusals
