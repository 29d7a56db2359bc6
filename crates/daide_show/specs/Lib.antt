pub mod Input
pub mod Cause
pub mod Shown
pub mod Found
pub mod Note
pub mod Groups
