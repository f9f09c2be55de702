pub mod Answered
pub mod OrderLines
