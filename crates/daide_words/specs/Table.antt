-- The table with an operator's words. No word is defined here, so the main theorem does not depend on trust in it.
pub mod OverWords
pub mod Place
pub mod Places
pub mod Extended
