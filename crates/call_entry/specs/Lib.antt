pub mod Replies
pub mod Prologue
pub mod Ends
