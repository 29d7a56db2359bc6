pub mod MemoryPorts
