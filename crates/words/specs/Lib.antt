pub mod Kind
pub mod Pairs
