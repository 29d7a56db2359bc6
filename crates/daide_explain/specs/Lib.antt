pub mod Expected
pub mod LowestLevel
pub mod Unpaired
pub mod Listed
pub mod Explained
