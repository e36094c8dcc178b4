pub mod Books
pub mod Entries
pub mod Lines
pub mod Tallies
pub mod Totals
