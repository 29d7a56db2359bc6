-- Proofs of the laws of `Predict` and of `Model` for the types of this crate. The code of a type names them, and it may not
-- name `proofs/` of its own crate, so they are here. No promise is defined here.
pub mod TokenTests
pub mod Reading
pub mod Alternatives
pub mod RightEntries
pub mod MovesAgree
pub mod Sizes
pub mod StacksInOrder
pub mod StacksStaySmall
pub mod NoLanguageIsEmpty
pub mod TableLaws
pub mod StandardDialect
pub mod PlainLaws
pub mod Numbers
