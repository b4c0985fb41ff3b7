pub mod Removing
pub mod Keeping
pub mod Finding
