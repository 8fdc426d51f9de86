pub mod Families
pub mod Splits
pub mod Starts
pub mod Answers
pub mod Forms
