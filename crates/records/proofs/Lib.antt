pub mod Numbers
pub mod Places
pub mod Trips
pub mod Zeros
