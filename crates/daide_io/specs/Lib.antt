pub mod Ports
pub mod ByteCounts
pub mod FaultField
pub mod System
pub mod Streams
pub mod Network
pub mod ReadyQueue
