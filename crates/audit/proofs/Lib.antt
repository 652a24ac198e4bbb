pub mod HoldingLaws
pub mod Counting
pub mod Audits
pub mod Rest
