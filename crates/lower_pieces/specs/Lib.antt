pub mod Emits
pub mod Bounds
pub mod Forms
pub mod Fragments
