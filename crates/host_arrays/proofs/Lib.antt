pub mod PairLemmas
pub mod PlaceLemmas
pub mod ListingLemmas
pub mod NumberLemmas
