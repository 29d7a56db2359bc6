-- Proofs of the laws of `Predict` for the table with an operator's words. The code of the table names them, and it may not
-- name `proofs/` of its own crate, so they are here. No promise is defined here.
pub mod WordForms
pub mod WordMoves
pub mod WordStacks
pub mod WordDialect
pub mod WordLaws
