mod Common
pub mod FeedLemmas
pub mod SessionFronts
pub mod EmitsLemmas
pub mod OpenRuns
pub mod FrameEventsLemmas
pub mod SessionLemmas
pub mod WeightLemmas
pub mod WrittenLemmas
pub mod WorkLemmas
pub mod InARowLemmas
pub mod JoinedRuns
pub mod LevelRuns
pub mod LevelsAgree
mod LawFacts
