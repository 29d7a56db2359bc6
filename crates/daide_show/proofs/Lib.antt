mod Common
pub mod Reading
pub mod Outcomes
pub mod AnswerParts
pub mod OneFrame
pub mod OneWay
pub mod OnlyAdded
pub mod OddGroups
pub mod NoteLemmas
pub mod Separators
pub mod FaultLines
pub mod InvalidTokens
mod InputFacts
mod CauseFacts
mod FaultFacts
mod NoteFacts
mod FrameFacts
