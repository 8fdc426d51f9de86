pub mod States
pub mod Starts
pub mod Evaluations
pub mod Shapes
pub mod LastFormatted
pub mod NameForms
pub mod NameWords
