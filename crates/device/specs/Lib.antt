pub mod Calls
pub mod Raising
pub mod Row
pub mod Shape
