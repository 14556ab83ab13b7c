pub mod Added
pub mod Followed
pub mod Held
pub mod Made
pub mod Runs
