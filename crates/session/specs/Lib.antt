pub mod Replies
pub mod Lived
