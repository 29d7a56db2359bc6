pub mod Exchanged
pub mod Gateway
pub mod Notices
pub mod Folder
pub mod Running
pub mod Accepted
