pub mod Calls
pub mod Taking
pub mod Buffers
pub mod Streams
