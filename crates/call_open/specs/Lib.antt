pub mod Fresh
pub mod Opened
