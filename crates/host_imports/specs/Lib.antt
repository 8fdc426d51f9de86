pub mod Names
pub mod Imports
pub mod NameList
pub mod FaultColumns
pub mod Codes
pub mod Lines
pub mod Links
