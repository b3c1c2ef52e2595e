pub mod Read
pub mod Steps
pub mod Whole
