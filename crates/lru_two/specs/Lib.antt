pub mod AsPrinted
pub mod Choice
pub mod Figures
pub mod Model
pub mod Of
pub mod Printed
