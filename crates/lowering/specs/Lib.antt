pub mod Holding
pub mod Lengths
pub mod Limits
pub mod Parts
pub mod Places
pub mod QuickFits
pub mod StepFits
