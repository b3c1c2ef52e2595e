pub mod Bounds
pub mod Steps
