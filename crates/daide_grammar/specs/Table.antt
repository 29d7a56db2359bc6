-- The grammar as a table: symbols, entries, numbers, and the laws of a table. No message is defined here, so the main
-- theorem does not depend on trust in it.
pub mod Answers
pub mod AnswersGiven
pub mod Symbols
pub mod Languages
pub mod Numbers
pub mod ParseActions
pub mod Cells
pub mod Stacks
pub mod LawfulStack
pub mod Laws
pub mod Shapes
pub mod Brackets
