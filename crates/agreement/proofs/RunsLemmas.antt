pub mod Carried
pub mod Outsides
pub mod Following
pub mod Wanting
pub mod Telling
pub mod Agreeing
pub mod Finding
