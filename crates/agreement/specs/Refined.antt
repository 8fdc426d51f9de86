-- The real machine that runs the module of a program follows the machine over values, whichever free numbers the host gives out.
pub mod Words
pub mod Owners
pub mod Refined
pub mod Growing
pub mod Running
