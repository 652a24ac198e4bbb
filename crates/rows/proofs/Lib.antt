pub mod Zero
pub mod RowLaws
