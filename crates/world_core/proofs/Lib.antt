pub mod TraceLemmas
pub mod NameLemmas
pub mod StateLemmas
pub mod StreamLemmas
