pub mod Spots
pub mod Marked
pub mod Places
pub mod Probed
pub mod Examples
pub mod InOrder
pub mod SpotTexts
pub mod LineExamples
