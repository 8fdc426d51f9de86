pub mod MainInput
pub mod Assignments
pub mod Records
