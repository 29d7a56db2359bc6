pub mod Session
pub mod FrameEvents
pub mod Work
pub mod Bounds
pub mod InARow
pub mod Joined
