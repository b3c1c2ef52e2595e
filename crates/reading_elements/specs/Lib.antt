pub mod Bounds
pub mod Steps
pub mod Short
pub mod Carry
pub mod Nested
