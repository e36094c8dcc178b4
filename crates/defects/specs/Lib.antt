pub mod Defects
pub mod DefectShape
pub mod Marked
pub mod Spots
