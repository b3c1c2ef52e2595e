pub mod Parts
pub mod Fields
