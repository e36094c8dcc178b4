pub mod Frames
pub mod Once
pub mod Runs
pub mod Sets
