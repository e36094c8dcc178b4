pub mod Idle
pub mod Shown
pub mod Steps
pub mod Through
