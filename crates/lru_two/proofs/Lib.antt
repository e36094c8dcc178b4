pub mod Laws
pub mod Picks
pub mod Shown
pub mod Victims
pub mod Sounds
pub mod References
pub mod Strings
