pub mod DefectFiles
pub mod Whole
