pub mod GivenLemmas
pub mod OsStreamLemmas
pub mod PathLemmas
mod BehindLemmas
pub mod NameLemmas
