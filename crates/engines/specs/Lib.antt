pub mod Hands
pub mod Arcs
pub mod Search
pub mod Heights
