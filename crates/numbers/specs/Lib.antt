pub mod Numbers
pub mod Parts
pub mod Lines
pub mod Written
pub mod Answers
