pub mod Bounds
pub mod Steps
pub mod InPlace
