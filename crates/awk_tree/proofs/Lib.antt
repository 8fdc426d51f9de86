pub mod Parts
mod Ends
mod Levels
mod Arguments
mod Derived
mod Deriving
mod Statements
mod Scripts
mod Examples
