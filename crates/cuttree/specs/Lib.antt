pub mod Nodes
pub mod Splits
pub mod Trees
pub mod Laws
