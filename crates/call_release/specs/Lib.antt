pub mod Idling
