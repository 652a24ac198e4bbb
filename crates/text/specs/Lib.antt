pub mod Numbers
pub mod Partitions
pub mod Fields
pub mod Answers
pub mod Claims
