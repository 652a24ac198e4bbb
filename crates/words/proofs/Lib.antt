pub mod Reads32
