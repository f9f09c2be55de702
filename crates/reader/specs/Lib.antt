pub mod Meaning
pub mod Readings
pub mod Rows
pub mod Orders
pub mod Documents
pub mod Verdict
