mod Common
mod StandardFacts
mod WholeRangeFacts
pub mod ListLemmas
pub mod HeadLemmas
pub mod AlienLemmas
pub mod FramesLemmas
mod CutterLemmas
pub mod FeedingLemmas
mod HeaderFeeding
pub mod OneByte
pub mod CutsAgree
pub mod PerSideLemmas
