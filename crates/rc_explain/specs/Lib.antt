pub mod Explains
pub mod Members
