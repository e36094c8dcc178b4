pub mod Recent
pub mod Calls
