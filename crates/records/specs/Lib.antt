pub mod Little
pub mod Form
pub mod Kinds
pub mod Widths
pub mod KindLaws
pub mod Layout
pub mod Laws
pub mod Sentence
