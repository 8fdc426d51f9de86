pub mod View
pub mod Operands
