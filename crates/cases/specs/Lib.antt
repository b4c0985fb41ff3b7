pub mod Table
pub mod File
pub mod Ledgers
pub mod Outcomes
