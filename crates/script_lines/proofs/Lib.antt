pub mod Tables
pub mod SectionsLemmas
