pub mod Faults
pub mod Search
pub mod Layout
pub mod Meaning
pub mod Records
pub mod Headers
pub mod Checks
pub mod Networks
