pub mod Final
pub mod Statements
pub mod Items
pub mod Scripts
pub mod Silent
pub mod Passing
pub mod Ordered
pub mod InOrder
