pub mod Sendings
pub mod Messages
