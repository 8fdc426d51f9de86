pub mod StartsSoFar
pub mod OnLines
pub mod AtUses
pub mod Searched
pub mod Eres
pub mod Whole
