pub mod Views
pub mod Shapes
