pub mod Rights
pub mod Answers
