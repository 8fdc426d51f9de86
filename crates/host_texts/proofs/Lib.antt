mod Counts
mod SpecialNumbers
mod Starts
mod Taken
pub mod Rows
mod Outcomes
mod Bounds
mod LastOnes
mod LastFormats
pub mod Announced
pub mod Assigned
pub mod NameReading
pub mod NameSteps
pub mod SubstitutionStays
