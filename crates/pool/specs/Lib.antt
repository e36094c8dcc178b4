pub mod Did
pub mod Meaning
pub mod Promise
pub mod Steps
pub mod Tied
