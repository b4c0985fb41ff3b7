pub mod Passes
pub mod Desks
