pub mod Asked
pub mod Counted
pub mod Held
pub mod Laws
pub mod Lives
pub mod Pages
pub mod Propers
