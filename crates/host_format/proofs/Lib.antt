pub mod Refusals
pub mod Firsts
pub mod Pieces
pub mod Opens
pub mod Fielded
pub mod Places
pub mod Left
