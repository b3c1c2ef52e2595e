pub mod Heads
pub mod Lengths
