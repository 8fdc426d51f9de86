mod ArrayLemmas
mod LenderLemmas
pub mod Refusals
mod SpanLemmas
