pub mod Numbers
pub mod Rendering
pub mod FieldReading
pub mod ListReading
pub mod SetReading
pub mod FieldsBack
pub mod SetsBack
pub mod Room
