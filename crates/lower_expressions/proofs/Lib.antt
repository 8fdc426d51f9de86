mod Arms
mod FitLemmas
mod FormLemmas
mod Keepings
mod Keys
mod Refusals
mod RoutineLemmas
pub mod SourceLemmas
mod Views
mod WalkLemmas
pub mod Weights
