pub mod Made
pub mod Storing
