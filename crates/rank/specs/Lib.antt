pub mod Orders
pub mod OrderLaws
