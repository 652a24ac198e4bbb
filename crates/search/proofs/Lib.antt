pub mod Places
pub mod LiveRows
