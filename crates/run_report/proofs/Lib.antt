pub mod WhereLemmas
pub mod Named
pub mod Written
