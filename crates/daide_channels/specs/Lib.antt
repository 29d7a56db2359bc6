pub mod Receiver
pub mod SendQueue
pub mod Channels
pub mod Fronts
