pub mod Checked
pub mod Done
pub mod Lines
pub mod Sights
