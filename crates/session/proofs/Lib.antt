pub mod FoundFields
pub mod Bounds
pub mod Follow
pub mod Claims
