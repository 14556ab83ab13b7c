pub mod Fields
pub mod Lists
pub mod Spelled
pub mod Alike
