pub mod Values
pub mod Magnitude
pub mod ReadingFacts
pub mod Splits
pub mod Sound
pub mod Longest
pub mod Meaning
pub mod LongExponent
mod Nonzero
pub mod Plain
pub mod Octals
