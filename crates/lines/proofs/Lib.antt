pub mod Cuts
pub mod Readers
