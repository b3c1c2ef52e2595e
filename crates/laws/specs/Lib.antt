pub mod If
pub mod Fields
pub mod Picks
pub mod Sums
pub mod Lists
pub mod Digits
pub mod Runs
pub mod Parts
