mod Common
mod AnswerParts
pub mod Allowed
pub mod Relayed
pub mod LevelPlaces
pub mod Likeness
pub mod Filtered
pub mod Scans
pub mod Places
pub mod Exact
pub mod Items
pub mod Deep
pub mod PlaceFacts
pub mod OneExplanation
pub mod Printed
pub mod OnlyDepth
pub mod ExplainedFacts
