pub mod Places
pub mod Counts
pub mod Order
pub mod Scans
