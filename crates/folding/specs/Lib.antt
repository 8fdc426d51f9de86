pub mod Folding
pub mod Left
pub mod View
pub mod Examples
