-- Proofs that the code names: the toolchain takes the proof of a trait's law from specs/ alone. No clause names one.
pub mod Lawful
