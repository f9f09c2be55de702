pub mod Tabled
pub mod Passed
pub mod Laws
pub mod Made
