pub mod Turns
pub mod Falls
pub mod Equations
pub mod Sound
pub mod Complete
pub mod Statements
pub mod Items
pub mod Runs
