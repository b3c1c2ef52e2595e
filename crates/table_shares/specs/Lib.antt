pub mod Share
pub mod Telling
pub mod Counting
pub mod Example
