pub mod Controlling
pub mod Checking
pub mod Endings
pub mod Needs
pub mod Opened
pub mod Trials
