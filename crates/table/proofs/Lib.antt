pub mod Causes
pub mod Firsts
pub mod Decided
