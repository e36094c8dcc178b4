pub mod Listed
pub mod Volume
