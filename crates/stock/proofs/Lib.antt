pub mod Looks
pub mod Counts
