pub mod Lived
pub mod Turns
