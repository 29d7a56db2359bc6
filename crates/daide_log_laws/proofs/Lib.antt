pub mod TextLines
pub mod AddedFacts
pub mod AddedLines
pub mod ShownParts
pub mod MoveLines
pub mod OnlyAdds
mod LawFacts
