pub mod Binding
mod Operands
mod Expressions
mod Places
mod Calls
pub mod Stands
pub mod Trees
pub mod Statements
pub mod Scripts
mod Related
mod OutputGrows
mod FuelMonotone
mod Runs
