pub mod Earliest
pub mod Calls
pub mod Strikes
