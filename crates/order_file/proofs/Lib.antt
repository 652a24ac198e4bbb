pub mod Pairs
pub mod Files
pub mod Kept
pub mod Outcomes
pub mod Comes
