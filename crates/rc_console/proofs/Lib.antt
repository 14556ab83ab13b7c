pub mod Answers
pub mod FileAnswers
pub mod Needed
