pub mod Refusals
pub mod Blanks
pub mod Machine
pub mod Calls
pub mod Promises
pub mod Worked
