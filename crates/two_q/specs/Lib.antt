pub mod AsPrinted
pub mod Figures
pub mod Lists
pub mod Model
pub mod Of
pub mod Printed
