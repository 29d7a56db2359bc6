mod Common
pub mod ClassLaws
mod TableLemmas
mod NameLaws
mod NamePages
mod NamesByLetter
mod DecimalText
pub mod TextParts
mod TextWords
mod TokenLemmas
pub mod TokenPlaces
pub mod WholeText
mod TextBack
pub mod ClassNumbers
mod StandardFacts
mod WholeRangeFacts
mod SecondListing
pub mod TextLines
