pub mod Fine
pub mod Octets
pub mod Slots
pub mod Whole
pub mod Ready
pub mod Owners
pub mod Invocations
pub mod Following
