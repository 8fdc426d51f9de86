pub mod Ends
pub mod Expressions
pub mod Statements
pub mod Scripts
pub mod Lines
pub mod Parts
pub mod LineExamples
pub mod Lexemes
