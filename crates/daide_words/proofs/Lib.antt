mod Common
pub mod WordLists
pub mod OperandRules
pub mod WhereStopped
pub mod AcceptedCodes
pub mod TableFirst
pub mod DifferentWords
pub mod MovesAsOther
pub mod NamesRead
mod Apart
mod WordFacts
mod WholeRangeFacts
mod FifteenFacts
pub mod OverMessages
pub mod PairedOverWords
pub mod WordsGrow
