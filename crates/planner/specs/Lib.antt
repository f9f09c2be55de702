pub mod Idle
pub mod Scans
pub mod Searches
pub mod Lives
pub mod Lasts
pub mod Calls
pub mod Alike
pub mod Printed
