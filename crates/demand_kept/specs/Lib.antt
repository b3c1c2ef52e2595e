pub mod Acts
pub mod Carried
pub mod Listed
pub mod Requests
pub mod Shared
pub mod StepKept
