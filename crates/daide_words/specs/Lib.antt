pub mod WordNames
pub mod Word
pub mod Accepted
pub mod Words
pub mod Table
pub mod Proofs
