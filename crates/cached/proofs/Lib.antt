pub mod Asked
pub mod Beginning
pub mod Granted
pub mod Granting
pub mod Opened
pub mod Raised
pub mod Reading
pub mod Writing
