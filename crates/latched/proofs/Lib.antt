pub mod LatchedLemmas
