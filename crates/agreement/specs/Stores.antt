pub mod Elements
pub mod Fields
pub mod Files
pub mod Walks
pub mod Examples
