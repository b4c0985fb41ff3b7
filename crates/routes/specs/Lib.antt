pub mod Taking
pub mod Shapes
pub mod Ends
pub mod Walks
pub mod Draws
