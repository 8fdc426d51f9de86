mod SpecialNumbers
mod Kept
pub mod Apart
mod Turns
mod MainFound
mod FileReads
mod FileFound
mod ReadSteps
mod ReadFound
mod Silent
mod ArgvTexts
mod MainCalls
mod FileCalls
mod LineCalls
mod SkipCalls
mod EndCalls
pub mod Joined
pub mod Lasts
pub mod Puts
pub mod Steps
pub mod Worlds
pub mod Found
pub mod Texts
pub mod Faults
pub mod Tables
pub mod Printed
pub mod Closings
pub mod Flushes
