pub mod Ways
pub mod Steps
pub mod Balances
pub mod Drawing
pub mod Choosing
