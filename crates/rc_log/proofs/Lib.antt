pub mod Blanks
pub mod Lists
pub mod Logs
pub mod Others
pub mod Readers
