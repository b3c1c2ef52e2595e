pub mod Digits
pub mod Back
pub mod Steps
