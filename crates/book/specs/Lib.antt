pub mod Ledger
pub mod Tables
pub mod Grounds
pub mod Calls
pub mod Runs
pub mod Listings
pub mod Plans
