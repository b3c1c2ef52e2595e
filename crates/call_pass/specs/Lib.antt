pub mod Appending
pub mod Refusing
pub mod Passings
