pub mod Numbers
pub mod Raise
pub mod Sentence
