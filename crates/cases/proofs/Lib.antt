pub mod Steps
pub mod Worked
pub mod Meant
pub mod Reckoned
pub mod ThreeHeld
pub mod Following
