mod StepsLemmas
mod Pieces
mod Noted
mod NewNumbers
pub mod Spelled
pub mod LengthsLemmas
pub mod Depths
pub mod Nested
pub mod Keys
