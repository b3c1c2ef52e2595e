pub mod Standing
pub mod Written
pub mod Given
pub mod Pieces
pub mod Upto
pub mod Pdus
pub mod Shells
pub mod Spoken
