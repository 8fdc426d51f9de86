pub mod Groups
pub mod RunLemmas
pub mod Leads
pub mod Views
