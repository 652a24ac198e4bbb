pub mod File
pub mod Printed
pub mod Claims
pub mod Answers
