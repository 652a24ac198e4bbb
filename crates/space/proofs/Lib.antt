pub mod Passed
pub mod Seeking
pub mod Small
