pub mod Loops
pub mod Steps
pub mod Sound
pub mod SoundBody
pub mod SoundParts
pub mod SoundModule
pub mod Complete
pub mod CompleteBody
pub mod CompleteParts
pub mod CompleteModule
mod Nested
pub mod Examples
