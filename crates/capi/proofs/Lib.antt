mod Files
mod Denials
mod Turns
