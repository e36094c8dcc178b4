pub mod DefectLines
pub mod Numbers
pub mod Stocks
