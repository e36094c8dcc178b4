pub mod Answered
pub mod Finding
pub mod Held
pub mod Numbered
pub mod Pair
pub mod Reading
pub mod Settled
