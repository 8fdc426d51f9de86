pub mod Spans
pub mod Marks
pub mod Expressions
pub mod Separators
pub mod Between
pub mod Substitutions
