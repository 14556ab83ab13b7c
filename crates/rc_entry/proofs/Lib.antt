pub mod Bytes
pub mod Written
pub mod Faults
pub mod OneSpelling
