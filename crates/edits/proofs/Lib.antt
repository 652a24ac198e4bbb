pub mod Store
pub mod Written
pub mod Lent
