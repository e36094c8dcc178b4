pub mod Courses
pub mod Swaps
pub mod Turns
pub mod Tallies
pub mod Admissions
pub mod Counts
