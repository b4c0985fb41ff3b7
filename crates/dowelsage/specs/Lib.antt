pub mod Parsed
pub mod Words
