pub mod Aligned
pub mod Chains
pub mod Taken
pub mod TextLemmas
mod RequestFacts
pub mod RequestLemmas
mod StatusFacts
