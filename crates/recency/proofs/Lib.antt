pub mod Laws
pub mod Places
pub mod Shifts
pub mod Pages
