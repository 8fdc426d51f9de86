pub mod Runs
pub mod Outlets
pub mod ModuleWhereTexts
pub mod Uncompiled
pub mod Compiles
