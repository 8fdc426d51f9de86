pub mod TableLemmas
pub mod NumberLemmas
