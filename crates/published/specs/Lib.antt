pub mod Fixings
pub mod LruTwoAmong
pub mod Published
pub mod TwoQAmong
