mod AgainLemmas
pub mod BufferLemmas
pub mod CallLemmas
pub mod StreamLemmas
