pub mod Place
pub mod Pairs
