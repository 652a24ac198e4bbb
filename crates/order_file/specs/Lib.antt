pub mod File
pub mod Claims
pub mod Answers
