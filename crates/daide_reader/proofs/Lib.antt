mod Common
pub mod BodyLemmas
pub mod OutlineLemmas
pub mod StackLemmas
pub mod ErrorPlaceLemmas
pub mod ReadingLemmas
pub mod VerdictLemmas
pub mod PlainVerdicts
pub mod SomeVerdict
pub mod SliceLemmas
pub mod CellLemmas
pub mod Counts
pub mod Sizes
pub mod Fronts
pub mod StretchLemmas
