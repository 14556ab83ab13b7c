pub mod Answers
pub mod Faults
pub mod Files
pub mod Inputs
pub mod Outputs
pub mod Words
