mod Common
pub mod PhaseLemmas
pub mod PieceRuns
pub mod OneRun
pub mod SomeRun
pub mod WireLemmas
pub mod FramesHeard
pub mod SummaryLemmas
pub mod GrowthLemmas
pub mod EndingLemmas
pub mod CountLemmas
pub mod NameLemmas
pub mod NameTextLemmas
pub mod AccountLemmas
pub mod AccountLevels
pub mod CallLemmas
pub mod HloLemmas
pub mod LimitsKept
pub mod FrameShapes
pub mod FateLemmas
pub mod EndedLemmas
pub mod AnswerBytes
pub mod PassingLemmas
pub mod BesideLemmas
pub mod HarmLemmas
pub mod StandardFacts
pub mod SessionViewFacts
pub mod SessionFacts
mod EndingFacts
mod CountFacts
mod AccountFacts
mod NameFacts
mod LevelRangeFacts
pub mod WordedVerdicts
pub mod WordedRuns
mod LimitFacts
mod LawFacts
