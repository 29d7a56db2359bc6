pub mod PartedLemmas
pub mod DigitLemmas
pub mod PageLemmas
pub mod LineLemmas
pub mod FormLemmas
pub mod LineFacts
