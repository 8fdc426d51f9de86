pub mod Names
pub mod Least
pub mod Marks
pub mod Marked
pub mod Waiting
pub mod Numbered
pub mod Transfer
pub mod Places
pub mod Causes
pub mod Tables
pub mod Noted
pub mod Listed
mod SetsLemmas
