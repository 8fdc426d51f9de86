pub mod Integers
pub mod IntegerParts
pub mod Memories
pub mod MemoryAnswers
pub mod Examples
pub mod Tables
pub mod Words
