mod FaultFieldFacts
pub mod TraceLemmas
pub mod ReadyLemmas
