pub mod Pairs
pub mod Order
pub mod Call
pub mod Claims
pub mod Answers
